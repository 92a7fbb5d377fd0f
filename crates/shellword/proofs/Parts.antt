-- The parts of words and here texts are what the reader's steps find.
use Rattle.std.proofs.Common.{◌≡◌, ℕ, suc, ◌+◌, ◌<◌, ◌≤◌, true, false, not, ◌||◌, ◌==◌, inl, inr, List, [], ◌∷◌, ◌++◌, length, map, take, drop, Option, Some, None, option_to_list, refl, sym, ap, subst, ◌∙◌, arith}
use Rattle.std.proofs.lemmas.Bool.{eqb-true, not-true, and_parts, or_cases}
use Rattle.std.proofs.lemmas.List.{drop-drop, length-drop, take-append-drop}
use Rattle.std.proofs.Math.Seq.{take-append_seam, drop-append_seam, drop-append-add}
use Rattle.shellword.specs.declared.part.Part.{Part}
use Rattle.shellword.specs.declared.part.Part.TheVariants.{Plain, Quoted, Variable}
use Rattle.shellword.specs.declared.front.Context.{Context}
use Rattle.shellword.specs.declared.front.Context.TheVariants.{Bare, Single, Double, Here}
use Rattle.shellword.specs.declared.front.WordFront.{WordFront}
use Rattle.shellword.specs.Text.{single_quote, double_quote, backslash, dollar, backquote, newline, open_brace, close_brace, name_len, expands_here, escapes_here, has_no, stands_alone, word_ends}
use Rattle.shellword.specs.Contexts.{is_special, escapes, escapes_front, escaped_part, byte_in, is_over, is_quoted}
use Rattle.shellword.specs.Scan.{front}
use Rattle.shellword.specs.Word as w
use Rattle.shellword.specs.Word.{IsVariable, IsDoublePart, AreDoubleParts, IsWordPart, AreWordParts, IsHerePart, IsHere, BeginsAt}
use Rattle.shellword.proofs.Steps as s
use Rattle.shellword.proofs.Steps.{IsFront, Runs}
use Rattle.shellword.proofs.Fronts.{front-len}
use Rattle.shellword.proofs.Variables.{name_len_is, some_name, name_at}

-- ---- what is a part is found

-- a step that leads from one text to the next
pub record Leads (c : Context) (text : List ℕ) (part : Option Part) (d : Context) (after : List ℕ) : Type 0 where
  pub len : ℕ
  pub step : IsFront c text (front part len d)
  pub ends : drop len text ≡ after

-- steps that lead to the end
pub record RunsTo (c : Context) (text : List ℕ) (parts : List Part) (rest : List ℕ) : Type 0 where
  pub len : ℕ
  pub run : Runs c text parts len
  pub ends : drop len text ≡ rest
  pub within : len ≤ length text

leads_on : {c d : Context} {text after rest : List ℕ} {part : Option Part} {parts : List Part} → is_over c text ≡ false → Leads c text part d after → RunsTo d after parts rest
    → RunsTo c text (option_to_list part ++ parts) rest
leads_on {c} {d} {text} {after} {rest} {part} {parts} more l r = record {
  len = l.len + r.len;
  run = s.goes_on more l.step (subst (λ (t : List ℕ). Runs d t parts r.len) (sym l.ends) r.run);
  ends = sym (drop-drop r.len l.len text) ∙ ap (λ (t : List ℕ). drop r.len t) l.ends ∙ r.ends;
  within = let one = (front-len l.step).1 in let two : length (drop l.len text) ≡ length after = ap length l.ends in omega (arith, r.within, length-drop l.len text);
}

pub variable_leads : {text name rest : List ℕ} → IsVariable text name rest → (c : Context) → is_special c dollar ≡ true → Leads c text (Some (Variable name)) c rest
variable_leads (w.named {name} {rest} form stops) c special =
    let len = name_len_is name rest form stops in
    let some : 0 < name_len (name ++ rest) = omega (arith, some_name name form) in
    let one : length name + 1 ≡ suc (length name) = omega arith in
    record {
      len = length name + 1;
      step = subst (λ (t : List ℕ). IsFront c (dollar ∷ (name ++ rest)) (front (Some (Variable t)) (length name + 1) c)) (take-append_seam name rest)
          (subst (λ (k : ℕ). IsFront c (dollar ∷ (name ++ rest)) (front (Some (Variable (take k (name ++ rest)))) (k + 1) c)) len (s.variable special some));
      ends = rw one (drop-append_seam name rest);
    }
variable_leads (w.in_braces {name} {rest} form) c special =
    let inside = name ++ close_brace ∷ rest in
    let len = name_len_is name (close_brace ∷ rest) form refl in
    let some : 0 < name_len inside = omega (arith, some_name name form) in
    let three : length name + 3 ≡ suc (suc (length name + 1)) = omega arith in
    let closes : drop (name_len inside) inside ≡ close_brace ∷ rest = rw len (drop-append_seam name (close_brace ∷ rest)) in
    record {
      len = length name + 3;
      step = subst (λ (t : List ℕ). IsFront c (dollar ∷ open_brace ∷ inside) (front (Some (Variable t)) (length name + 3) c)) (take-append_seam name (close_brace ∷ rest))
          (subst (λ (k : ℕ). IsFront c (dollar ∷ open_brace ∷ inside) (front (Some (Variable (take k inside))) (k + 3) c)) len (s.in_braces special some closes));
      ends = rw three (drop-append-add name (close_brace ∷ rest) 1);
    }

-- a word or here text does not end before a variable
more_variable : {text name rest : List ℕ} → IsVariable text name rest → (c : Context) → is_over c (dollar ∷ []) ≡ false → is_over c text ≡ false
more_variable (w.named form stops) Bare h = refl
more_variable (w.named form stops) Single h = refl
more_variable (w.named form stops) Double h = refl
more_variable (w.named form stops) Here h = refl
more_variable (w.in_braces form) Bare h = refl
more_variable (w.in_braces form) Single h = refl
more_variable (w.in_braces form) Double h = refl
more_variable (w.in_braces form) Here h = refl

-- a part in double quotes is one step
double_leads : {text after : List ℕ} {part : Part} → IsDoublePart text part after → Leads Double text (Some part) Double after
double_leads (w.escaped h) = record { len = 2; step = s.escaped h; ends = refl }
double_leads (w.kept_backslash h) = record { len = 1; step = s.kept refl h; ends = refl }
double_leads (w.variable v) = variable_leads v Double refl
double_leads (w.lone_dollar h) = record { len = 1; step = s.lone_dollar refl h; ends = refl }
double_leads (w.byte h) = record { len = 1; step = s.ordinary h; ends = refl }

double_goes_on : {text after : List ℕ} {part : Part} → IsDoublePart text part after → is_over Double text ≡ false
double_goes_on (w.variable v) = more_variable v Double refl
double_goes_on other = refl

-- one of the three bytes
three_bytes : (P : ℕ → Type 0) → P backslash → P dollar → P backquote → (b : ℕ) → expands_here b ≡ true → P b
three_bytes P x y z b h =
    elim (or_cases (b == backslash || b == dollar) (b == backquote) h) [
      | inr e ↦ subst P (sym (eqb-true b backquote e)) z
      | inl two ↦ (elim (or_cases (b == backslash) (b == dollar) two) [ inl e ↦ subst P (sym (eqb-true b backslash e)) x | inr e ↦ subst P (sym (eqb-true b dollar e)) y ])
    ]

escaped_here : (b : ℕ) (rest : List ℕ) → expands_here b ≡ true → Leads Here (backslash ∷ b ∷ rest) (Some (Quoted b)) Here rest
escaped_here b rest h =
    three_bytes (λ x. Leads Here (backslash ∷ x ∷ rest) (Some (Quoted x)) Here rest) (record { len = 2; step = s.escaped refl; ends = refl }) (record { len = 2; step = s.escaped refl; ends = refl })
    (record { len = 2; step = s.escaped refl; ends = refl }) b h

-- ---- a property that each step preserves holds of the parts of words and here texts

module _ (P : Context → List ℕ → List Part → Type 0) (on : (c d : Context) (text after : List ℕ) (part : Option Part) (parts : List Part) → is_over c text ≡ false → Leads c text part d after → P d after parts → P c text (option_to_list part ++ parts)) where
  -- up to the quote that closes, or to the end
  pub single_carry : (inside after : List ℕ) (parts : List Part) → has_no single_quote inside ≡ true → P Single after parts → P Single (inside ++ after) (map Quoted inside ++ parts)
  single_carry [] after parts none p = p
  single_carry (b ∷ bs) after parts none p =
      let both = and_parts (not (b == single_quote)) (has_no single_quote bs) none in
      on Single Single _ _ _ _ refl (record { len = 1; step = s.ordinary (not-true (b == single_quote) both.0); ends = refl }) (single_carry bs after parts both.1 p)

  pub double_carry : {text rest : List ℕ} {inner : List Part} (parts : List Part) → AreDoubleParts text inner rest → P Double rest parts → P Double text (inner ++ parts)
  double_carry parts w.no_more p = p
  double_carry parts (w.more one others) p = on Double Double _ _ _ _ (double_goes_on one) (double_leads one) (double_carry parts others p)

  pub word_part_carry : {text after : List ℕ} {first : List Part} (parts : List Part) → IsWordPart text first after → P Bare after parts → P Bare text (first ++ parts)
  word_part_carry parts (w.single_quoted {rest = after} inside none) p =
      on Bare Single _ _ None _ refl (record { len = 1; step = s.single_opens; ends = refl })
      (single_carry inside (single_quote ∷ after) parts none (on Single Bare _ _ None _ refl (record { len = 1; step = s.single_closes; ends = refl }) p))
  word_part_carry parts (w.double_quoted inner) p =
      on Bare Double _ _ None _ refl (record { len = 1; step = s.double_opens; ends = refl })
      (double_carry parts inner (on Double Bare _ _ None _ refl (record { len = 1; step = s.double_closes; ends = refl }) p))
  word_part_carry parts (w.escaped {b = b}) p = on Bare Bare _ _ (Some (Quoted b)) _ refl (record { len = 2; step = s.escaped refl; ends = refl }) p
  word_part_carry parts w.last_backslash p = on Bare Bare _ _ (Some (Plain backslash)) _ refl (record { len = 1; step = s.kept refl refl; ends = refl }) p
  word_part_carry parts (w.variable v) p = on Bare Bare _ _ _ _ (more_variable v Bare refl) (variable_leads v Bare refl) p
  word_part_carry parts (w.lone_dollar h) p = on Bare Bare _ _ (Some (Plain dollar)) _ refl (record { len = 1; step = s.lone_dollar refl h; ends = refl }) p
  word_part_carry parts (w.byte {b = b} h over) p = on Bare Bare _ _ (Some (Plain b)) _ over (record { len = 1; step = s.ordinary h; ends = refl }) p

  pub here_part_carry : {text after : List ℕ} {first : List Part} (parts : List Part) → IsHerePart text first after → P Here after parts → P Here text (first ++ parts)
  here_part_carry parts (w.escaped {b} {rest} h) p = on Here Here _ _ (Some (Quoted b)) _ refl (escaped_here b rest h) p
  here_part_carry parts w.joined_line p = on Here Here _ _ None _ refl (record { len = 2; step = s.escaped refl; ends = refl }) p
  here_part_carry parts (w.kept_backslash h) p = on Here Here _ _ (Some (Plain backslash)) _ refl (record { len = 1; step = s.kept refl h; ends = refl }) p
  here_part_carry parts (w.variable v) p = on Here Here _ _ _ _ (more_variable v Here refl) (variable_leads v Here refl) p
  here_part_carry parts (w.lone_dollar h) p = on Here Here _ _ (Some (Plain dollar)) _ refl (record { len = 1; step = s.lone_dollar refl h; ends = refl }) p
  here_part_carry parts (w.byte {b = b} h) p = on Here Here _ _ (Some (Plain b)) _ refl (record { len = 1; step = s.ordinary h; ends = refl }) p

-- the end of a run, and its length
pub record RunsUpTo (c : Context) (text : List ℕ) (parts : List Part) (rest : List ℕ) : Type 0 where
  pub len : ℕ
  pub run : Runs c text parts len
  pub ends : drop len text ≡ rest
  pub place : BeginsAt len rest text

up_to : {c : Context} {text rest : List ℕ} {parts : List Part} → RunsTo c text parts rest → RunsUpTo c text parts rest
up_to {c} {text} {rest} {parts} r = record {
  len = r.len;
  run = r.run;
  ends = r.ends;
  place = let e : length (drop r.len text) ≡ length rest = ap length r.ends in omega (arith, r.within, length-drop r.len text);
}

over_is : (text : List ℕ) → word_ends text ≡ is_over Bare text
over_is [] = refl
over_is (b ∷ bs) = refl

word_runs_to : {text rest : List ℕ} {parts : List Part} → AreWordParts text parts rest → word_ends rest ≡ true → RunsTo Bare text parts rest
word_runs_to (w.no_more {rest}) over = record { len = 0; run = s.ends refl (sym (over_is rest) ∙ over); ends = refl; within = omega arith }
word_runs_to {rest = rest} (w.more {parts = parts} one others) over = word_part_carry (λ c text parts. RunsTo c text parts rest) (λ c d text after part parts. leads_on) parts one (word_runs_to others over)

pub word-run : {text rest : List ℕ} {parts : List Part} → AreWordParts text parts rest → word_ends rest ≡ true → RunsUpTo Bare text parts rest
word-run word over = up_to (word_runs_to word over)

pub word_runs : {text rest : List ℕ} {parts : List Part} {n : ℕ} → AreWordParts text parts rest → word_ends rest ≡ true → BeginsAt n rest text → Runs Bare text parts n
word_runs {text} {rest} {parts} {n} word over place =
    let r = word-run word over in
    let len : r.len ≡ n = omega (arith, place, r.place) in
    subst (Runs Bare text parts) len r.run

here_runs_to : {text : List ℕ} {parts : List Part} → IsHere text parts → RunsTo Here text parts []
here_runs_to w.no_more = record { len = 0; run = s.ends refl refl; ends = refl; within = omega arith }
here_runs_to (w.more {parts = parts} one others) = here_part_carry (λ c text parts. RunsTo c text parts []) (λ c d text after part parts. leads_on) parts one (here_runs_to others)

pub here-run : {text : List ℕ} {parts : List Part} → IsHere text parts → RunsUpTo Here text parts []
here-run h = up_to (here_runs_to h)

-- ---- what is found is a part

-- in single quotes: the rest of them, and then a word
record InSingle (text : List ℕ) (parts : List Part) (rest : List ℕ) : Type 0 where
  inside : List ℕ
  after : List ℕ
  others : List Part
  none : has_no single_quote inside ≡ true
  text_is : text ≡ inside ++ single_quote ∷ after
  parts_are : parts ≡ map Quoted inside ++ others
  word : AreWordParts after others rest
  over : word_ends rest ≡ true

-- in double quotes
record InDouble (text : List ℕ) (parts : List Part) (rest : List ℕ) : Type 0 where
  inner : List Part
  after : List ℕ
  others : List Part
  quoted : AreDoubleParts text inner (double_quote ∷ after)
  parts_are : parts ≡ inner ++ others
  word : AreWordParts after others rest
  over : word_ends rest ≡ true

-- the parts of a run, by the context of its first byte
abbrev Spelled : Context → List ℕ → List Part → List ℕ → Type 0
Spelled Bare text parts rest = AreWordParts text parts rest × (word_ends rest ≡ true)
Spelled Single text parts rest = InSingle text parts rest
Spelled Double text parts rest = InDouble text parts rest
Spelled Here text parts rest = IsHere text parts

-- a part in a context
pub data PartOf : Context → List ℕ → List Part → List ℕ → Type 0 where
  bare : {text after : List ℕ} {first : List Part} → IsWordPart text first after → PartOf Bare text first after
  single : {b : ℕ} {after : List ℕ} → (b == single_quote) ≡ false → PartOf Single (b ∷ after) (Quoted b ∷ []) after
  double : {text after : List ℕ} {part : Part} → IsDoublePart text part after → PartOf Double text (part ∷ []) after
  here : {text after : List ℕ} {first : List Part} → IsHerePart text first after → PartOf Here text first after

variable_part : (c : Context) {text name after : List ℕ} → is_special c dollar ≡ true → IsVariable text name after → PartOf c text (Variable name ∷ []) after
variable_part Bare special v = bare (w.variable v)
variable_part Single special v = absurd cc
variable_part Double special v = double (w.variable v)
variable_part Here special v = here (w.variable v)

escaped_here_part : (b : ℕ) (after : List ℕ) → escapes_here b ≡ true → IsHerePart (backslash ∷ b ∷ after) (option_to_list (escaped_part Here b)) after
escaped_here_part b after h =
    elim (or_cases (b == dollar || b == backquote || b == backslash) (b == newline) h) [
      | inr e ↦ subst (λ (x : ℕ). IsHerePart (backslash ∷ x ∷ after) (option_to_list (escaped_part Here x)) after) (sym (eqb-true b newline e)) w.joined_line
      | inl three ↦
          (elim (or_cases (b == dollar || b == backquote) (b == backslash) three) [
            | inr e ↦ one backslash (eqb-true b backslash e) (w.escaped refl)
            | inl two ↦ (elim (or_cases (b == dollar) (b == backquote) two) [ inl e ↦ one dollar (eqb-true b dollar e) (w.escaped refl) | inr e ↦ one backquote (eqb-true b backquote e) (w.escaped refl) ])
          ])
    ] where
      one : (x : ℕ) → b ≡ x → IsHerePart (backslash ∷ x ∷ after) (option_to_list (escaped_part Here x)) after → IsHerePart (backslash ∷ b ∷ after) (option_to_list (escaped_part Here b)) after
      one x is part = subst (λ (y : ℕ). IsHerePart (backslash ∷ y ∷ after) (option_to_list (escaped_part Here y)) after) (sym is) part

escaped_part_of : (c : Context) (b : ℕ) (after : List ℕ) → escapes c b ≡ true → PartOf c (backslash ∷ b ∷ after) (option_to_list (escaped_part c b)) after
escaped_part_of Bare b after h = bare w.escaped
escaped_part_of Single b after h = absurd cc
escaped_part_of Double b after h = double (w.escaped h)
escaped_part_of Here b after h = here (escaped_here_part b after h)

kept_part : (c : Context) (after : List ℕ) → is_special c backslash ≡ true → escapes_front c after ≡ false → PartOf c (backslash ∷ after) (byte_in c backslash ∷ []) after
kept_part Bare [] special none = bare w.last_backslash
kept_part Bare (b ∷ bs) special none = absurd cc
kept_part Single after special none = absurd cc
kept_part Double after special none = double (w.kept_backslash none)
kept_part Here after special none = here (w.kept_backslash none)

alone_part : (c : Context) (after : List ℕ) → is_special c dollar ≡ true → stands_alone after ≡ true → PartOf c (dollar ∷ after) (byte_in c dollar ∷ []) after
alone_part Bare after special alone = bare (w.lone_dollar alone)
alone_part Single after special alone = absurd cc
alone_part Double after special alone = double (w.lone_dollar alone)
alone_part Here after special alone = here (w.lone_dollar alone)

byte_part : (c : Context) (b : ℕ) (after : List ℕ) → is_special c b ≡ false → is_over c (b ∷ after) ≡ false → PartOf c (b ∷ after) (byte_in c b ∷ []) after
byte_part Bare b after plain more = bare (w.byte plain more)
byte_part Single b after plain more = single plain
byte_part Double b after plain more = double (w.byte plain)
byte_part Here b after plain more = here (w.byte plain)

pub variable_is : (text : List ℕ) → 0 < name_len text → IsVariable (dollar ∷ text) (take (name_len text) text) (drop (name_len text) text)
variable_is text some =
    let n = name_at text some in
    subst (λ (t : List ℕ). IsVariable (dollar ∷ t) (take (name_len text) text) (drop (name_len text) text)) (take-append-drop (name_len text) text) (w.named n.0 n.1)

pub braced_is : (inside rest : List ℕ) → 0 < name_len inside → drop (name_len inside) inside ≡ close_brace ∷ rest → IsVariable (dollar ∷ open_brace ∷ inside) (take (name_len inside) inside) rest
braced_is inside rest some closes =
    let whole : take (name_len inside) inside ++ close_brace ∷ rest ≡ inside = ap (λ (t : List ℕ). take (name_len inside) inside ++ t) (sym closes) ∙ take-append-drop (name_len inside) inside in
    subst (λ (t : List ℕ). IsVariable (dollar ∷ open_brace ∷ t) (take (name_len inside) inside) rest) whole (w.in_braces (name_at inside some).0)

-- what a step finds: a part, or a quote that opens or closes
pub data Found : Context → List ℕ → WordFront → Type 0 where
  part : {c : Context} {text : List ℕ} {part : Option Part} {len : ℕ} → PartOf c text (option_to_list part) (drop len text) → Found c text (front part len c)
  single_opens : {after : List ℕ} → Found Bare (single_quote ∷ after) (front None 1 Single)
  double_opens : {after : List ℕ} → Found Bare (double_quote ∷ after) (front None 1 Double)
  single_closes : {after : List ℕ} → Found Single (single_quote ∷ after) (front None 1 Bare)
  double_closes : {after : List ℕ} → Found Double (double_quote ∷ after) (front None 1 Bare)

pub step_found : {c : Context} {text : List ℕ} {f : WordFront} → IsFront c text f → is_over c text ≡ false → Found c text f
step_found s.single_opens more = single_opens
step_found s.double_opens more = double_opens
step_found s.single_closes more = single_closes
step_found s.double_closes more = double_closes
step_found (s.escaped {c = c} {b = b} {rest = after} h) more = part (escaped_part_of c b after h)
step_found (s.kept {c = c} {rest = after} special none) more = part (kept_part c after special none)
step_found (s.variable {c = c} {rest = after} special some) more =
    let one : name_len after + 1 ≡ suc (name_len after) = omega arith in
    part (subst (λ (k : ℕ). PartOf c (dollar ∷ after) (Variable (take (name_len after) after) ∷ []) (drop k (dollar ∷ after))) (sym one) (variable_part c special (variable_is after some)))
step_found (s.in_braces {c = c} {inside = inside} {rest = after} special some closes) more =
    let three : name_len inside + 3 ≡ suc (suc (name_len inside + 1)) = omega arith in
    let there : drop (name_len inside + 1) inside ≡ after = sym (drop-drop 1 (name_len inside) inside) ∙ ap (λ (t : List ℕ). drop 1 t) closes in
    let v = variable_part c special (braced_is inside after some closes) in
    part (subst (λ (k : ℕ). PartOf c (dollar ∷ open_brace ∷ inside) (Variable (take (name_len inside) inside) ∷ []) (drop k (dollar ∷ open_brace ∷ inside))) (sym three)
    (subst (PartOf c (dollar ∷ open_brace ∷ inside) (Variable (take (name_len inside) inside) ∷ [])) (sym there) v))
step_found (s.lone_dollar {c = c} {rest = after} special alone) more = part (alone_part c after special alone)
step_found (s.ordinary {c = c} {b = b} {rest = after} plain) more = part (byte_part c b after plain more)

part_spelled : {c : Context} {text after : List ℕ} {first : List Part} → PartOf c text first after → (rest : List ℕ) (parts : List Part) → Spelled c after parts rest → Spelled c text (first ++ parts) rest
part_spelled (bare one) rest parts p = (w.more one p.0, p.1)
part_spelled (single {b} h) rest parts p = record {
  inside = b ∷ p.inside;
  after = p.after;
  others = p.others;
  none = rw (h, p.none) refl;
  text_is = ap (λ (t : List ℕ). b ∷ t) p.text_is;
  parts_are = ap (λ (ps : List Part). Quoted b ∷ ps) p.parts_are;
  word = p.word;
  over = p.over;
}
part_spelled (double {part = q} one) rest parts p =
    record { inner = q ∷ p.inner; after = p.after; others = p.others; quoted = w.more one p.quoted; parts_are = ap (λ (ps : List Part). q ∷ ps) p.parts_are; word = p.word; over = p.over }
part_spelled (here one) rest parts p = w.more one p

step_spelled : {c : Context} {text : List ℕ} {f : WordFront} → Found c text f → (rest : List ℕ) (parts : List Part) → Spelled f.context (drop f.len text) parts rest → Spelled c text (option_to_list f.part ++ parts) rest
step_spelled (part one) rest parts p = part_spelled one rest parts p
step_spelled (single_opens {after}) rest parts p = (
  subst (λ (ps : List Part). AreWordParts (single_quote ∷ after) ps rest) (sym p.parts_are)
      (subst (λ (t : List ℕ). AreWordParts (single_quote ∷ t) (map Quoted p.inside ++ p.others) rest) (sym p.text_is) (w.more (w.single_quoted p.inside p.none) p.word)),
  p.over,
)
step_spelled (double_opens {after}) rest parts p =
    (subst (λ (ps : List Part). AreWordParts (double_quote ∷ after) ps rest) (sym p.parts_are) (w.more (w.double_quoted p.quoted) p.word), p.over)
step_spelled (single_closes {after}) rest parts p =
    record { inside = []; after = after; others = parts; none = refl; text_is = refl; parts_are = refl; word = p.0; over = p.1 }
step_spelled (double_closes {after}) rest parts p =
    record { inner = []; after = after; others = parts; quoted = w.no_more; parts_are = refl; word = p.0; over = p.1 }

nothing_left : (text : List ℕ) → is_over Here text ≡ true → text ≡ []
nothing_left [] over = refl
nothing_left (b ∷ bs) over = absurd cc

ends_spelled : (c : Context) (text : List ℕ) → is_quoted c ≡ false → is_over c text ≡ true → Spelled c text [] text
ends_spelled Bare text unquoted over = (w.no_more, over_is text ∙ over)
ends_spelled Single text unquoted over = absurd cc
ends_spelled Double text unquoted over = absurd cc
ends_spelled Here text unquoted over = subst (λ (t : List ℕ). IsHere t []) (sym (nothing_left text over)) w.no_more

runs_spelled : {c : Context} {text : List ℕ} {parts : List Part} {n : ℕ} → Runs c text parts n → Spelled c text parts (drop n text)
runs_spelled (s.ends {c} {text} unquoted over) = ends_spelled c text unquoted over
runs_spelled (s.goes_on {c} {text} {f} {parts} {n} more one others) =
    subst (Spelled c text (option_to_list f.part ++ parts)) (drop-drop n f.len text) (step_spelled (step_found one more) _ _ (runs_spelled others))

pub run-len : {c : Context} {text : List ℕ} {parts : List Part} {n : ℕ} → Runs c text parts n → n ≤ length text
run-len (s.ends unquoted over) = omega arith
run-len (s.goes_on {c} {text} {f} {parts} {n} over h rest) = omega (arith, (front-len h).1, run-len rest, length-drop f.len text)

pub run-word : {text : List ℕ} {parts : List Part} {n : ℕ} → Runs Bare text parts n → AreWordParts text parts (drop n text) × (word_ends (drop n text) ≡ true) × BeginsAt n (drop n text) text
run-word {text} {parts} {n} run = let p = runs_spelled run in (p.0, p.1, omega (arith, run-len run, length-drop n text))

pub run-here : {text : List ℕ} {parts : List Part} {n : ℕ} → Runs Here text parts n → IsHere text parts
run-here run = runs_spelled run
