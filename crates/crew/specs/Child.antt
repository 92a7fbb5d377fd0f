-- A child of a crew in memory.
use Rattle.std.specs.Prelude.{ℕ}
use Rattle.crew_trait.specs.declared.reply.Reply.{Reply}

-- A child: its slot, and the reply that it will give. (own)
pub record Child : Type 0 where
  pub slot : ℕ
  pub reply : Reply
