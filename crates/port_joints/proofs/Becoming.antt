-- What conditions become.
use Rattle.std.proofs.Common.{◌≡◌, ◌∙◌, ap, sym, subst, refl, ℕ, ◌+◌, ◌-◌, ◌<◌, ◌==◌, List, [], ◌∷◌, ◌++◌, map, take, length, get_or, Bool, true, false, not, inl, inr, arith, Result, Ok, Err, slice_range, slice_index, codes, OnOk}
use Rattle.std.specs.Prelude.{IfOk, IsTrue}
use Rattle.std.proofs.lemmas.List.{map_more, map_push}
use Rattle.std.proofs.lemmas.Bool.Decides.{eqb_tells}
use Rattle.shellword.specs.Nested.{nested}
use Rattle.shellword.specs.Test.{IsTest}
use Rattle.shellword.specs.Truth.{Joined, single}
use Rattle.shellword.specs.declared.element.Element.{Element}
use Rattle.shellword.specs.declared.token.Joint.{Joint}
use Rattle.port_joints.specs.Joints.{HaveBecome, Becomes, BecomesIf, AllBecome, AreGaps, IsBegun, IsRejoined, IsOneTest, IsComparison, IsOperand, is_comparison, is_gap}
use Rattle.port_joints.specs.Joints as specs
use Rattle.port_parts.specs.Places.{IsWord}

-- What follows from what an `Ok` says holds of the `Ok`.
pub on_ok : {T E P Q : Type 0} → (P → Q) → (r : Result T E) → OnOk r P → OnOk r Q
on_ok f (Ok v) p = f p
on_ok f (Err e) p = tt

pub joined_step : (operator joint text : List ℕ) (is_first : Bool) (start : ℕ) (put : List ℕ) (at next : ℕ) (new_first : Bool) (new_at : ℕ) (new : List ℕ)
    → IsBegun operator joint text is_first start put → IsOperand is_first (slice_range text start at) → (is_gap (slice_index text (at - 1)) ≡ true) × IsWord text at operator next
    → ((new_first ≡ false) × (new_at ≡ next)) × (new ≡ (put ++ slice_range text start at) ++ (joint ++ codes " test")) → IsBegun operator joint text new_first new_at new
joined_step operator joint text is_first start put at next new_first new_at new before operand is ((first_is, at_is), new_is) =
    subst (λ f. IsBegun operator joint text f new_at new) (sym first_is)
    (subst (λ a. IsBegun operator joint text false a new) (sym at_is) (subst (IsBegun operator joint text false next) (sym new_is) (specs.IsBegun.joined at before operand is.0 is.1)))

pub kept_step : (operator joint text : List ℕ) (is_first : Bool) (start : ℕ) (put : List ℕ) (at after from end : ℕ) (new_first : Bool) (new_at : ℕ) (new : List ℕ)
    → IsBegun operator joint text is_first start put → IsOperand is_first (slice_range text start at)
    → (IsWord text at joint after × AreGaps text after from) × IsWord text from (codes "test") end
    → ((new_first ≡ true) × (new_at ≡ end)) × (new ≡ put ++ slice_range text start end) → IsBegun operator joint text new_first new_at new
kept_step operator joint text is_first start put at after from end new_first new_at new before operand is ((first_is, at_is), new_is) =
    subst (λ f. IsBegun operator joint text f new_at new) (sym first_is)
    (subst (λ a. IsBegun operator joint text true a new) (sym at_is) (subst (IsBegun operator joint text true end) (sym new_is) (specs.IsBegun.kept at after from before operand is.0.0 is.0.1 is.1)))

pub stepped : (is_condition : Bool) (part text : List ℕ) (old new : List (List ℕ)) → BecomesIf is_condition part text → new ≡ old ++ text ∷ []
    → (parts : List (List ℕ)) → HaveBecome is_condition parts old → HaveBecome (not is_condition) (parts ++ part ∷ []) new
stepped is_condition part text old new becomes pushed parts before =
    subst (HaveBecome (not is_condition) (parts ++ part ∷ [])) (sym pushed) (specs.HaveBecome.next part text before becomes)

pub more_parts : {V : Type 0} (view : V → List ℕ) (parts : List V) (i : ℕ) (d : V) (is_condition : Bool) (texts : List (List ℕ)) → i < length parts
    → HaveBecome is_condition (map view (take i parts) ++ view (get_or parts i d) ∷ []) texts → HaveBecome is_condition (map view (take (i + 1) parts)) texts
more_parts view parts i d is_condition texts within before = subst (λ p. HaveBecome is_condition p texts) (sym (map_more view parts i d within)) before

pub and_put : (condition put text : List ℕ) → IsRejoined (codes "-a") (codes "&&") condition put → text ≡ put → Becomes condition text
and_put condition put text is same = subst (Becomes condition) (sym same) (specs.Becomes.and is)

pub or_put : (condition put text : List ℕ) → IsRejoined (codes "-o") (codes "||") condition put → text ≡ put → Becomes condition text
or_put condition put text is same = subst (Becomes condition) (sym same) (specs.Becomes.or is)

pub condition_if : {E : Type 0} (flag : Bool) (part : List ℕ) (r : Result (List ℕ) E) → flag ≡ true → IfOk r (λ t. Becomes part t) → IfOk r (λ t. BecomesIf flag part t)
condition_if flag part r is put = subst (λ f. IfOk r (λ t. BecomesIf f part t)) (sym is) put

pub body_if : {E : Type 0} (flag : Bool) (part : List ℕ) (r : Result (List ℕ) E) → flag ≡ false → IfOk r (λ t. t ≡ part) → IfOk r (λ t. BecomesIf flag part t)
body_if flag part r is put = subst (λ f. IfOk r (λ t. BecomesIf f part t)) (sym is) put

-- All parts, if a condition would be next.
pub ended : {E : Type 0} (parts texts : List (List ℕ)) (r : Result Bool E) → IfOk r (λ b. HaveBecome b parts texts) → IfOk r (λ b. IsTrue b → AllBecome parts texts)
ended parts texts (Ok true) become = λ yes_it. specs.AllBecome.no_default become
ended parts texts (Ok false) become = λ no_it. (let z : false ≡ true = no_it in cc)
ended parts texts (Err e) become = tt

pub defaulted : (part text : List ℕ) (old new : List (List ℕ)) → text ≡ part → new ≡ old ++ text ∷ []
    → (parts : List (List ℕ)) → HaveBecome true parts old → AllBecome (parts ++ part ∷ []) new
defaulted part text old new same pushed parts before =
    subst (AllBecome (parts ++ part ∷ [])) (sym (pushed ∙ ap (λ t. old ++ t ∷ []) same)) (specs.AllBecome.default part before)

-- The last part after the others.
pub all_parts : {E : Type 0} (parts front : List (List ℕ)) (last : List ℕ) (flag : Bool) (mid new : List (List ℕ)) (r : Result Bool E) → parts ≡ front ++ last ∷ []
    → flag ≡ true → HaveBecome flag front mid
    → IfOk r (λ b. IsTrue b → (before : List (List ℕ)) → HaveBecome true before mid → AllBecome (before ++ last ∷ []) new)
    → IfOk r (λ b. IsTrue b → AllBecome parts new)
all_parts parts front last flag mid new (Ok b) split set have put =
    λ yes_it. subst (λ p. AllBecome p new) (sym split) (put yes_it front (subst (λ f. HaveBecome f front mid) set have))
all_parts parts front last flag mid new (Err e) split set have put = tt

-- The views of a list with a last element.
pub split_views : {V : Type 0} (view : V → List ℕ) (parts front : List V) (last : V) → parts ≡ front ++ last ∷ [] → map view parts ≡ map view front ++ view last ∷ []
split_views view parts front last split = ap (map view) split ∙ map_push view front last

-- ---- operands

nothing_listed : {A : Type 0} (xs : List A) → (length xs == 0) ≡ true → xs ≡ []
nothing_listed [] h = refl
nothing_listed (x ∷ xs) h =
    elim (eqb_tells (length (x ∷ xs)) 0) [
      | inl w ↦ absurd (omega (arith, w.1))
      | inr w ↦ (let z : false ≡ true = sym w.0 ∙ h in cc)
    ]

pub one_of : (text : List ℕ) (found : Joined) (first : Element) (rest : List (Joint × Element)) → IsTest text found → found ≡ nested (single first) rest
    → (length rest == 0) ≡ true → IsOneTest text
one_of text found first rest tests is none =
    record { element = first; is = subst (IsTest text) (is ∙ ap (nested (single first)) (nothing_listed rest none)) tests }

pub comparison_of : (text : List ℕ) (found : Joined) (first : Element) (rest : List (Joint × Element)) → IsTest text found → found ≡ nested (single first) rest
    → (length rest == 0) ≡ true → is_comparison first.condition ≡ true → IsComparison text
comparison_of text found first rest tests is none compares =
    record { element = first; is = subst (IsTest text) (is ∙ ap (nested (single first)) (nothing_listed rest none)) tests; compares = compares }
