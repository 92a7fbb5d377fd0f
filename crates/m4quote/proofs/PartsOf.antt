-- What a text spells consists of parts of the text.
use Rattle.std.proofs.Common.{◌≡◌, ℕ, suc, ◌+◌, ◌-◌, ◌≤◌, Bool, true, false, eqb, List, [], ◌∷◌, ◌++◌, length, take, drop, cond, refl, sym, ap, ◌∙◌, arith}
use Rattle.std.specs.Prelude.{All}
use Rattle.std.proofs.lemmas.Bool.{eqb-true}
use Rattle.std.proofs.lemmas.List.{drop-drop, length-drop, length-take-le, length-append}
use Rattle.std.proofs.lemmas.List.Elements.{All-nil, All-cons, All-head, All-tail}
use Rattle.std.proofs.Math.Seq.{take-add}
use Rattle.m4quote.specs.ItemValue.{Span, ItemValue, call, bare, bare_before}
use Rattle.m4quote.specs.Text.{blank_len}
use Rattle.m4quote.specs.Spelling.{AreArguments, last, more, argument_of, Spells, nothing, bare_text, dropped_line, bare_name, with_arguments}
use Rattle.m4quote.specs.Parts.{IsPart, IsSpanOf, IsItemOf, ArePartsOf}
use Rattle.m4quote.proofs.Insides.{front_fits}
use Rattle.m4quote.proofs.ArgumentLists.{length_is, arguments_fit}

module _ (base : ℕ) (whole : List ℕ) where
  -- n bytes of the rest after k bytes
  part_is : (at k n : ℕ) (text : List ℕ) → at ≡ base + k → text ≡ drop k whole → n ≤ length text → k ≤ length whole → IsPart base whole at (take n text)
  part_is at k n text place rest fits within =
      let len = length-take-le n text fits in
      let whole_len : length text ≡ length whole - k = ap length rest ∙ length-drop k whole in
      let there : drop (at - base) whole ≡ text = ap (λ m. drop m whole) (let e : at - base ≡ k = omega arith in e) ∙ sym rest in
      record {
        begins = omega arith;
        ends = omega (arith, len, whole_len);
        bytes = rw (len, there) refl;
      }

  -- two adjacent parts are one
  part_joined : (at to : ℕ) (a b : List ℕ) → to ≡ at + length a → IsPart base whole at a → IsPart base whole to b → IsPart base whole at (a ++ b)
  part_joined at to a b touch first second =
      let there : drop (length a) (drop (at - base) whole) ≡ drop (to - base) whole =
      drop-drop (length a) (at - base) whole ∙ ap (λ m. drop m whole) (let e : at - base + length a ≡ to - base = (let h = first.begins in omega arith) in e) in
      record {
        begins = first.begins;
        ends = omega (arith, first.begins, second.ends, length-append a b);
        bytes = ap (λ m. take m (drop (at - base) whole)) (length-append a b) ∙ take-add (length a) (length b) (drop (at - base) whole) ∙ rw (there, first.bytes, second.bytes) refl;
      }

  joined_or_not : (t : Bool) (at to : ℕ) (a b : List ℕ) (items : List ItemValue) → (t ≡ true → to ≡ at + length a) → IsPart base whole at a → IsPart base whole to b → ArePartsOf base whole items
      → ArePartsOf base whole (cond t (bare (a ++ b) at ∷ items) (bare a at ∷ bare b to ∷ items))
  joined_or_not true at to a b items touch first second later = All-cons (IsItemOf base whole) (bare (a ++ b) at) items (part_joined at to a b (touch refl) first second) later
  joined_or_not false at to a b items touch first second later = All-cons (IsItemOf base whole) (bare a at) (bare b to ∷ items) first (All-cons (IsItemOf base whole) (bare b to) items second later)

  bare_before-parts : (at : ℕ) (text : List ℕ) (items : List ItemValue) → IsPart base whole at text → ArePartsOf base whole items → ArePartsOf base whole (bare_before at text items)
  bare_before-parts at [] items first later = later
  bare_before-parts at (b ∷ bs) [] first later = All-cons (IsItemOf base whole) (bare (b ∷ bs) at) [] first later
  bare_before-parts at (b ∷ bs) (call name args to ∷ items) first later = All-cons (IsItemOf base whole) (bare (b ∷ bs) at) (call name args to ∷ items) first later
  bare_before-parts at (b ∷ bs) (bare text to ∷ items) first later =
      joined_or_not (eqb to (at + length (b ∷ bs))) at to (b ∷ bs) text items (eqb-true to (at + length (b ∷ bs))) first
      (All-head (IsItemOf base whole) (bare text to) items later)
      (All-tail (IsItemOf base whole) (bare text to) items later)

  -- the rest after n bytes of the rest
  rest_is : (k n : ℕ) (text : List ℕ) → text ≡ drop k whole → drop n text ≡ drop (k + n) whole
  rest_is k n text rest = ap (drop n) rest ∙ drop-drop n k whole

  argument_is : (at k n : ℕ) (text : List ℕ) → at ≡ base + k → text ≡ drop k whole → blank_len text + n ≤ length text → k ≤ length whole → IsSpanOf base whole (argument_of at text n)
  argument_is at k n text place rest fits within =
      let whole_len : length text ≡ length whole - k = ap length rest ∙ length-drop k whole in
      part_is (at + blank_len text) (k + blank_len text) n (drop (blank_len text) text) (omega arith) (rest_is k (blank_len text) text rest) (omega (arith, length-drop (blank_len text) text)) (omega (arith, whole_len))

  arguments-parts : {at m : ℕ} {text : List ℕ} {args : List Span} → AreArguments at text args m → (k : ℕ) → at ≡ base + k → text ≡ drop k whole → k ≤ length whole → All (IsSpanOf base whole) args
  arguments-parts (last {at} {n} {text} {after} inside ends) k place rest within =
      let len = length_is 0 at n 41 text after inside ends in
      All-cons (IsSpanOf base whole) (argument_of at text n) [] (argument_is at k n text place rest (omega (arith, len)) within) (All-nil (IsSpanOf base whole))
  arguments-parts (more {at} {n} {m} {text} {after} {args} inside ends later) k place rest within =
      let len = length_is 0 at n 44 text after inside ends in
      let whole_len : length text ≡ length whole - k = ap length rest ∙ length-drop k whole in
      let following : after ≡ drop (k + (blank_len text + n + 1)) whole =
      sym (ap (drop 1) ends) ∙ drop-drop 1 (blank_len text + n) text ∙ rest_is k (blank_len text + n + 1) text rest in
      All-cons (IsSpanOf base whole) (argument_of at text n) args (argument_is at k n text place rest (omega (arith, len)) within)
      (arguments-parts later (k + (blank_len text + n + 1)) (omega arith) following (omega (arith, len, whole_len)))

  pub items-parts : {at : ℕ} {text : List ℕ} {items : List ItemValue} → Spells at text items → (k : ℕ) → at ≡ base + k → text ≡ drop k whole → k ≤ length whole → ArePartsOf base whole items
  items-parts nothing k place rest within = All-nil (IsItemOf base whole)
  items-parts (bare_text {at} {n} {kind} {text} {items} front is later) k place rest within =
      let fits = front_fits front in
      let whole_len : length text ≡ length whole - k = ap length rest ∙ length-drop k whole in
      bare_before-parts at (take n text) items (part_is at k n text place rest fits.1 within)
      (items-parts later (k + n) (omega arith) (rest_is k n text rest) (omega (arith, fits.1, whole_len)))
  items-parts (dropped_line {at} {n} {text} {items} front later) k place rest within =
      let fits = front_fits front in
      let whole_len : length text ≡ length whole - k = ap length rest ∙ length-drop k whole in
      items-parts later (k + n) (omega arith) (rest_is k n text rest) (omega (arith, fits.1, whole_len))
  items-parts (bare_name {at} {n} {text} {items} front no_args later) k place rest within =
      let fits = front_fits front in
      let whole_len : length text ≡ length whole - k = ap length rest ∙ length-drop k whole in
      All-cons (IsItemOf base whole) (call (take n text) [] at) items (part_is at k n text place rest fits.1 within, All-nil (IsSpanOf base whole))
      (items-parts later (k + n) (omega arith) (rest_is k n text rest) (omega (arith, fits.1, whole_len)))
  items-parts (with_arguments {at} {n} {m} {text} {inside} {args} {items} front opens given later) k place rest within =
      let fits = front_fits front in
      let whole_len : length text ≡ length whole - k = ap length rest ∙ length-drop k whole in
      let len : length text ≡ n + suc (length inside) = omega (arith, length-drop n text, ap length opens, fits.1) in
      let following : inside ≡ drop (k + (n + 1)) whole = sym (ap (drop 1) opens) ∙ drop-drop 1 n text ∙ rest_is k (n + 1) text rest in
      let arguments_len = arguments_fit given in
      All-cons (IsItemOf base whole) (call (take n text) args at) items (part_is at k n text place rest fits.1 within, arguments-parts given (k + (n + 1)) (omega arith) following (omega (arith, len, whole_len)))
      (items-parts later (k + (n + 1) + m) (omega arith) (ap (drop m) following ∙ drop-drop m (k + (n + 1)) whole) (omega (arith, len, whole_len, arguments_len)))
