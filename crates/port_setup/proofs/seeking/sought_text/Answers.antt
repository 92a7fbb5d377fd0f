use Rattle.std.proofs.Common.{◌≡◌, ℕ, List, ap, subst, ◌∙◌}
use Rattle.std.specs.Prelude.{IfSome, codes}
use Rattle.port_idioms.specs.Rows.{Differs}
use Rattle.port_spots.specs.Put.{count_of}
use Rattle.port_setup.proofs.seeking.sought_text.Goals as goal

for_as_many : (name said : List ℕ) (n m : ℕ) → n ≡ m → Differs name n said → Differs name m said
for_as_many name said n m same differs = subst (λ k. Differs name k said) same differs

pub search_text-requires-clause-differs : goal.search_text-requires-clause-differs
search_text-requires-clause-differs c = for_as_many _ _ _ _ (c.count_of-count.ensures ∙ ap (λ args. count_of c.args.text.now args) c.as_slice.ensures.value) (subst (λ o. IfSome o (λ other. Differs (codes "AC_EGREP_CPP(symbol)") c.count_of-count.result other.said.now)) c.in-Some-2.is c.in_ok-other.ensures.said)
