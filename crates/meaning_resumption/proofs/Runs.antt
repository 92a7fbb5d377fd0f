-- Runs that continue.
use Rattle.std.proofs.Common.{◌≡◌, ℕ, ◌≤◌, List, ◌++◌, length, take, drop, refl, sym, ap, ◌∙◌, append_assoc, subst, arith, length-append}
use Rattle.std.proofs.lemmas.List.{length-take-le}
use Rattle.std.proofs.Math.Seq.{take-append_seam, drop-append_seam}
use Rattle.crew_trait.specs.declared.reply.Reply.{Reply}
use Rattle.meaning.specs.State.{State, How, Goes_on, Run, Ends, Asks, then_run}
use Rattle.meaning_laws.specs.Ends.{AtEnds}
use Rattle.meaning_resumption.specs.Finished.{Finished, finish, with_taken, Enough}
use Rattle.meaning_resumption.proofs.Near.{follow}

with_more : (a b : List Reply) (f : Finished) → with_taken a (with_taken b f) ≡ with_taken (a ++ b) f
with_more a b f = ap (λ t. record f { taken = t }) (sym (append_assoc a b f.taken))

follow_more : (rs : List Reply) (how : How) (f : Finished) (rest : State → Run) → with_taken rs (follow how f rest) ≡ follow how (with_taken rs f) rest
follow_more rs Goes_on f rest = with_more rs f.taken (finish (rest f.state) f.left)
follow_more rs _ f rest = refl

pub finish_then : (run : Run) (rest : State → Run) (rs : List Reply) → finish (then_run run rest) rs ≡ follow (finish run rs).how (finish run rs) rest
finish_then (Ends Goes_on st) rest rs = refl
finish_then (Ends _ st) rest rs = refl
finish_then (Asks jobs next) rest rs =
    ap (with_taken (take (length jobs) rs)) (finish_then (next (take (length jobs) rs)) rest (drop (length jobs) rs))
    ∙ follow_more (take (length jobs) rs) _ (finish (next (take (length jobs) rs)) (drop (length jobs) rs)) rest

pub enough_first : (run : Run) (rest : State → Run) (rs : List Reply) → Enough (then_run run rest) rs → Enough run rs
enough_first (Ends how st) rest rs h = tt
enough_first (Asks jobs next) rest rs h = (h.0, enough_first (next (take (length jobs) rs)) rest (drop (length jobs) rs) h.1)

pub enough_rest : (run : Run) (rest : State → Run) (rs : List Reply) → Enough (then_run run rest) rs → (finish run rs).how ≡ Goes_on → Enough (rest (finish run rs).state) (finish run rs).left
enough_rest (Ends Goes_on st) rest rs h e = h
enough_rest (Ends _ st) rest rs h e = cc
enough_rest (Asks jobs next) rest rs h e = enough_rest (next (take (length jobs) rs)) rest (drop (length jobs) rs) h.1 e

take_front : (n : ℕ) (rs t more : List Reply) → n ≤ length rs → take n (take n rs ++ (t ++ more)) ≡ take n rs
take_front n rs t more h = ap (λ k. take k (take n rs ++ (t ++ more))) (sym (length-take-le n rs h)) ∙ take-append_seam (take n rs) (t ++ more)

drop_front : (n : ℕ) (rs t more : List Reply) → n ≤ length rs → drop n (take n rs ++ (t ++ more)) ≡ t ++ more
drop_front n rs t more h = ap (λ k. drop k (take n rs ++ (t ++ more))) (sym (length-take-le n rs h)) ∙ drop-append_seam (take n rs) (t ++ more)

-- The replies that a run took, with others after them.
pub finish_again : (run : Run) (rs more : List Reply) → Enough run rs → finish run ((finish run rs).taken ++ more) ≡ record { how = (finish run rs).how; state = (finish run rs).state; taken = (finish run rs).taken; left = more }
finish_again (Ends how st) rs more h = refl
finish_again (Asks jobs next) rs more h =
    let r = take (length jobs) rs in
    let g = finish (next r) (drop (length jobs) rs) in
    ap (finish (Asks jobs next)) (append_assoc r g.taken more)
    ∙ ap (λ x. with_taken x (finish (next x) (drop (length jobs) (r ++ (g.taken ++ more))))) (take_front (length jobs) rs g.taken more h.0)
    ∙ ap (λ x. with_taken r (finish (next r) x)) (drop_front (length jobs) rs g.taken more h.0)
    ∙ ap (with_taken r) (finish_again (next r) (drop (length jobs) rs) more h.1)

-- There are enough of them, too.
pub enough_again : (run : Run) (rs more : List Reply) → Enough run rs → Enough run ((finish run rs).taken ++ more)
enough_again (Ends how st) rs more h = tt
enough_again (Asks jobs next) rs more h =
    let n = length jobs in
    let r = take n rs in
    let g = finish (next r) (drop n rs) in
    let rest : Enough (next r) (g.taken ++ more) = enough_again (next r) (drop n rs) more h.1 in
    let front : Enough (next (take n (r ++ (g.taken ++ more)))) (drop n (r ++ (g.taken ++ more))) =
    subst (λ x. Enough (next x) (drop n (r ++ (g.taken ++ more)))) (sym (take_front n rs g.taken more h.0)) (subst (λ x. Enough (next r) x) (sym (drop_front n rs g.taken more h.0)) rest) in
    let few : n ≤ length (r ++ (g.taken ++ more)) =
    let a = length-append r (g.taken ++ more) in
    let b = length-take-le n rs h.0 in
    omega (arith, a, b) in
    subst (Enough (Asks jobs next)) (sym (append_assoc r g.taken more)) (few, front)

-- One run after the other.
pub enough_then : (run : Run) (rest : State → Run) (rs : List Reply) → Enough run rs → ((finish run rs).how ≡ Goes_on → Enough (rest (finish run rs).state) (finish run rs).left) → Enough (then_run run rest) rs
enough_then (Ends Goes_on st) rest rs h k = k refl
enough_then (Ends _ st) rest rs h k = tt
enough_then (Asks jobs next) rest rs h k = (h.0, enough_then (next (take (length jobs) rs)) rest (drop (length jobs) rs) h.1 k)

pub at_end : (P : How → State → Type 0) (run : Run) (rs : List Reply) → AtEnds P run → P (finish run rs).how (finish run rs).state
at_end P (Ends how st) rs h = h
at_end P (Asks jobs next) rs h = at_end P (next (take (length jobs) rs)) (drop (length jobs) rs) (h (take (length jobs) rs))
