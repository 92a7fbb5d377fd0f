-- What a stream holds after a write, if it took nothing before it.
use Rattle.std.proofs.Common.{◌≡◌, ℕ, List, ◌++◌, Option, Some, None, Result, Ok, Err, refl, ap, ◌∙◌}
use Rattle.std.specs.Io.KnownBytes.{Keeps, Appends, WriteAppends}

pub keeps_same : (a : Option (List ℕ)) → Keeps a a
keeps_same None = tt
keeps_same (Some xs) = refl

pub keeps_keeps : (a b c : Option (List ℕ)) → Keeps a b → Keeps b c → Keeps a c
keeps_keeps None b c one two = tt
keeps_keeps (Some xs) None c one two = absurd one
keeps_keeps (Some xs) (Some ys) None one two = absurd two
keeps_keeps (Some xs) (Some ys) (Some zs) one two = two ∙ one

keeps_appends : (a b c : Option (List ℕ)) (text : List ℕ) → Keeps a b → Appends b c text → Appends a c text
keeps_appends None b c text one two = tt
keeps_appends (Some xs) None c text one two = absurd one
keeps_appends (Some xs) (Some ys) None text one two = absurd two
keeps_appends (Some xs) (Some ys) (Some zs) text one two = two ∙ ap (λ v. v ++ text) one

pub after_kept : {E : Type 0} (a b c : Option (List ℕ)) (r : Result ℕ E) (text : List ℕ) → Keeps a b → WriteAppends b c r text → WriteAppends a c r text
after_kept a b c (Ok n) text one two = keeps_appends a b c _ one two
after_kept a b c (Err e) text one two = keeps_keeps a b c one two
