-- The quotes of bare text are those of shell words.
use Rattle.std.proofs.Common.{◌≡◌, ℕ, Bool, true, false, not, ◌&&◌, ◌==◌, inl, inr, List, [], ◌∷◌, ◌++◌, refl, sym, ap, subst, ◌∙◌, append_assoc}
use Rattle.std.specs.List.{list_all}
use Rattle.std.proofs.lemmas.Bool.{eqb-true, and_parts, cases_Bool}
use Rattle.std.proofs.lemmas.List.{append-nil}
use Rattle.deftable.specs.ShellName.{continues_name}
use Rattle.shellword.specs.declared.part.Part.{Part}
use Rattle.shellword.specs.Text.{single_quote, double_quote, backslash, newline, dollar, open_brace, close_brace, escapes_in_double, expands_in_double, expands_bare, begins, has_no, ends_word}
use Rattle.shellword.specs.Word as w
use Rattle.shellword.specs.Word.{IsVariable, AreDoubleParts, IsWordPart}
use Rattle.shell_bare.specs.declared.continuation.BareContext.{BareContext}
use Rattle.shell_bare.specs.declared.continuation.BareContext.TheVariants.{Word, Single, Double}
use Rattle.shell_bare.specs.Text.{is_part_end}
use Rattle.shell_bare.specs.Continuation as j
use Rattle.shell_bare.specs.Continuation.{escapes, following, IsJoined}
use Rattle.shell_bare.specs.Kept as k
use Rattle.shell_bare.specs.Kept.{IsSpliced, IsLeft, LeavesPart}
use Rattle.shell_bare.proofs.Fronts.{name_all}

-- ---- a byte, and a sequence of bytes, that change nothing

byte_on : (p q : BareContext) (b : ℕ) (rest out : List ℕ) → (b == backslash) ≡ false → following p b ≡ q → IsJoined q rest out → IsJoined p (b ∷ rest) (b ∷ out)
byte_on p q b rest out plain next h = j.other (rw plain refl) (subst (λ (r : BareContext). IsJoined r rest out) (sym next) h)

-- the byte neither quotes nor separates words
abbrev is_plain : ℕ → Bool
is_plain b = not (b == backslash) && not (b == double_quote) && not (b == single_quote) && not (is_part_end b)

is_not : (t : Bool) → not t ≡ true → t ≡ false
is_not true h = absurd cc
is_not false h = refl

record Plain (b : ℕ) : Type 0 where
  backslash : (b == backslash) ≡ false
  double : (b == double_quote) ≡ false
  single : (b == single_quote) ≡ false
  part_end : is_part_end b ≡ false

plain_of : (b : ℕ) → is_plain b ≡ true → Plain b
plain_of b h =
    let p = and_parts (not (b == backslash) && not (b == double_quote) && not (b == single_quote)) (not (is_part_end b)) h in
    let q = and_parts (not (b == backslash) && not (b == double_quote)) (not (b == single_quote)) p.0 in
    let r = and_parts (not (b == backslash)) (not (b == double_quote)) q.0 in
    record { backslash = is_not _ r.0; double = is_not _ r.1; single = is_not _ q.1; part_end = is_not _ p.1 }

word_after : (b : ℕ) → Plain b → following Word b ≡ Word
word_after b p = rw (p.part_end, p.single, p.double) refl

double_after : (b : ℕ) → (b == double_quote) ≡ false → following Double b ≡ Double
double_after b h = rw h refl

run_on : (p : BareContext) → ((b : ℕ) → Plain b → following p b ≡ p) → (front rest out : List ℕ) → list_all is_plain front ≡ true → IsJoined p rest out → IsJoined p (front ++ rest) (front ++ out)
run_on p stays [] rest out plain h = h
run_on p stays (b ∷ bs) rest out plain h =
    let both = and_parts (is_plain b) (list_all is_plain bs) plain in
    let one = plain_of b both.0 in
    byte_on p p b (bs ++ rest) (bs ++ out) one.backslash (stays b one) (run_on p stays bs rest out both.1 h)

run_spliced : (front text left : List ℕ) → list_all is_plain front ≡ true → IsSpliced text left → IsSpliced (front ++ text) (front ++ left)
run_spliced [] text left plain h = h
run_spliced (b ∷ bs) text left plain h =
    let both = and_parts (is_plain b) (list_all is_plain bs) plain in
    k.byte (plain_of b both.0).backslash (run_spliced bs text left both.1 h)

-- ---- variables

not_name : (b c : ℕ) → continues_name b ≡ true → continues_name c ≡ false → (b == c) ≡ false
not_name b c name none =
    elim (cases_Bool (b == c)) [
      | inl same ↦ let e : true ≡ false = sym name ∙ ap continues_name (eqb-true b c same) ∙ none in absurd cc
      | inr other ↦ other
    ]

plain_name : (b : ℕ) → continues_name b ≡ true → is_plain b ≡ true
plain_name b h =
    rw (not_name b 92 h refl, not_name b 34 h refl, not_name b 39 h refl, not_name b 32 h refl, not_name b 9 h refl, not_name b 10 h refl, not_name b 59 h refl) refl

plain_names : (name : List ℕ) → list_all continues_name name ≡ true → list_all is_plain name ≡ true
plain_names [] h = refl
plain_names (b ∷ bs) h =
    let both = and_parts (continues_name b) (list_all continues_name bs) h in
    rw (plain_name b both.0, plain_names bs both.1) refl

plain_append : (a b : List ℕ) → list_all is_plain a ≡ true → list_all is_plain b ≡ true → list_all is_plain (a ++ b) ≡ true
plain_append [] b h k = k
plain_append (x ∷ xs) b h k = let both = and_parts (is_plain x) (list_all is_plain xs) h in rw (both.0, plain_append xs b both.1 k) refl

-- a variable is a `$` and such bytes
record AfterDollar (text rest : List ℕ) : Type 0 where
  name : List ℕ
  is : text ≡ dollar ∷ (name ++ rest)
  plain : list_all is_plain name ≡ true

variable_plain : {text name rest : List ℕ} → IsVariable text name rest → AfterDollar text rest
variable_plain (w.named {name} {rest} form stops) = record { name = name; is = refl; plain = plain_names name (name_all name form) }
variable_plain (w.in_braces {name} {rest} form) = record {
  name = open_brace ∷ (name ++ close_brace ∷ []);
  is = ap (λ (t : List ℕ). dollar ∷ open_brace ∷ t) (sym (append_assoc name (close_brace ∷ []) rest));
  plain = plain_append name (close_brace ∷ []) (plain_names name (name_all name form)) refl;
}

-- ---- single quotes

single_on : (inside rest out : List ℕ) → has_no single_quote inside ≡ true → IsJoined Word rest out → IsJoined Single (inside ++ single_quote ∷ rest) (inside ++ single_quote ∷ out)
single_on [] rest out none h = byte_on Single Word single_quote rest out refl refl h
single_on (b ∷ bs) rest out none h =
    let both = and_parts (not (b == single_quote)) (has_no single_quote bs) none in
    j.other (never (b == backslash)) (subst (λ (r : BareContext). IsJoined r (bs ++ single_quote ∷ rest) (bs ++ single_quote ∷ out)) (sym (stays (b == single_quote) (is_not _ both.0))) (single_on bs rest out both.1 h)) where
      never : (t : Bool) → (t && false) ≡ false
      never true = refl
      never false = refl

      stays : (t : Bool) → (b == single_quote) ≡ false → following Single b ≡ Single
      stays t e = rw e refl

-- ---- double quotes

-- the text up to `stop`, what remains of it, and how bare text continues
record InDouble (text stop : List ℕ) : Type 0 where
  front : List ℕ
  left : List ℕ
  is : text ≡ front ++ stop
  spliced : IsSpliced front left
  joined : (out : List ℕ) → IsJoined Double stop out → IsJoined Double text (left ++ out)

not_newline : (b : ℕ) → escapes_in_double b ≡ true → (b == newline) ≡ false
not_newline b h =
    elim (cases_Bool (b == newline)) [
      | inl same ↦ let e : true ≡ false = sym h ∙ ap escapes_in_double (eqb-true b newline same) in absurd cc
      | inr other ↦ other
    ]

double_escaped : (b : ℕ) (text stop : List ℕ) → (b == newline) ≡ false → InDouble text stop → InDouble (backslash ∷ b ∷ text) stop
double_escaped b text stop line d = record {
  front = backslash ∷ b ∷ d.front;
  left = backslash ∷ b ∷ d.left;
  is = ap (λ (t : List ℕ). backslash ∷ b ∷ t) d.is;
  spliced = k.escaped line d.spliced;
  joined = λ out h. j.quoted refl line (d.joined out h);
}

double_continued : (text stop : List ℕ) → InDouble text stop → InDouble (backslash ∷ newline ∷ text) stop
double_continued text stop d = record {
  front = backslash ∷ newline ∷ d.front;
  left = d.left;
  is = ap (λ (t : List ℕ). backslash ∷ newline ∷ t) d.is;
  spliced = k.continued d.spliced;
  joined = λ out h. j.continued refl (d.joined out h);
}

double_backslash : (b : ℕ) (text stop : List ℕ) → InDouble text stop → InDouble (backslash ∷ b ∷ text) stop
double_backslash b text stop d =
    elim (cases_Bool (b == newline)) [
      | inl line ↦ subst (λ (x : ℕ). InDouble (backslash ∷ x ∷ text) stop) (sym (eqb-true b newline line)) (double_continued text stop d)
      | inr other ↦ double_escaped b text stop other d
    ]

double_byte : (b : ℕ) (text stop : List ℕ) → (b == backslash) ≡ false → (b == double_quote) ≡ false → InDouble text stop → InDouble (b ∷ text) stop
double_byte b text stop plain open_quote d = record {
  front = b ∷ d.front;
  left = b ∷ d.left;
  is = ap (λ (t : List ℕ). b ∷ t) d.is;
  spliced = k.byte plain d.spliced;
  joined = λ out h. byte_on Double Double b text (d.left ++ out) plain (double_after b open_quote) (d.joined out h);
}

double_run : (front text stop : List ℕ) → list_all is_plain front ≡ true → InDouble text stop → InDouble (front ++ text) stop
double_run [] text stop plain d = d
double_run (b ∷ bs) text stop plain d =
    let both = and_parts (is_plain b) (list_all is_plain bs) plain in
    let one = plain_of b both.0 in
    double_byte b (bs ++ text) stop one.backslash one.double (double_run bs text stop both.1 d)

double_variable : (text name after stop : List ℕ) → IsVariable text name after → InDouble after stop → InDouble text stop
double_variable text name after stop v d =
    let p = variable_plain v in
    subst (λ (t : List ℕ). InDouble t stop) (sym p.is) (double_byte dollar (p.name ++ after) stop refl refl (double_run p.name after stop p.plain d))

record OtherInDouble (b : ℕ) : Type 0 where
  double : (b == double_quote) ≡ false
  backslash : (b == backslash) ≡ false

other_in_double : (b : ℕ) → expands_in_double b ≡ false → OtherInDouble b
other_in_double b h = record { double = is_other double_quote refl; backslash = is_other backslash refl } where
  is_other : (c : ℕ) → expands_in_double c ≡ true → (b == c) ≡ false
  is_other c special =
      elim (cases_Bool (b == c)) [
        | inl same ↦ let e : true ≡ false = sym special ∙ sym (ap expands_in_double (eqb-true b c same)) ∙ h in absurd cc
        | inr other ↦ other
      ]

in_double : {text stop : List ℕ} {parts : List Part} → AreDoubleParts text parts stop → (rest : List ℕ) → stop ≡ double_quote ∷ rest → InDouble text stop
in_double (w.no_more {rest = stop}) rest e = record { front = []; left = []; is = refl; spliced = k.nothing; joined = λ out h. h }
in_double (w.more (w.escaped {b = b} {rest = after} h) others) rest e = double_escaped b after _ (not_newline b h) (in_double others rest e)
in_double (w.more (w.variable {text = text} {name = name} {rest = after} v) others) rest e = double_variable text name after _ v (in_double others rest e)
in_double (w.more (w.lone_dollar {rest = after} h) others) rest e = double_byte dollar after _ refl refl (in_double others rest e)
in_double (w.more (w.byte {b = b} {rest = after} h) others) rest e = let o = other_in_double b h in double_byte b after _ o.backslash o.double (in_double others rest e)
in_double (w.more (w.kept_backslash h) w.no_more) rest e = absurd (let c : true ≡ false = sym (ap (begins escapes_in_double) e) ∙ h in cc)
in_double (w.more (w.kept_backslash h) (w.more (w.byte {b = b} {rest = after} o) others)) rest e = double_backslash b after _ (in_double others rest e)
in_double (w.more (w.kept_backslash h) (w.more (w.escaped x) others)) rest e = absurd cc
in_double (w.more (w.kept_backslash h) (w.more (w.kept_backslash x) others)) rest e = absurd cc
in_double (w.more (w.kept_backslash h) (w.more (w.lone_dollar x) others)) rest e = absurd cc
in_double (w.more (w.kept_backslash h) (w.more (w.variable (w.named x y)) others)) rest e = absurd cc
in_double (w.more (w.kept_backslash h) (w.more (w.variable (w.in_braces x)) others)) rest e = absurd cc

-- ---- a part of a word

escaped_left : (b : ℕ) (rest out : List ℕ) → IsJoined Word rest out → LeavesPart (backslash ∷ b ∷ rest) rest out
escaped_left b rest out h =
    elim (cases_Bool (b == newline)) [
      | inl line ↦
          subst (λ (x : ℕ). LeavesPart (backslash ∷ x ∷ rest) rest out) (sym (eqb-true b newline line))
          (record { part = backslash ∷ newline ∷ []; left = []; is = refl; kept = k.elsewhere refl (k.continued k.nothing); joined = j.continued refl h })
      | inr other ↦ record { part = backslash ∷ b ∷ []; left = backslash ∷ b ∷ []; is = refl; kept = k.elsewhere refl (k.escaped other k.nothing); joined = j.quoted refl other h }
    ]

nothing_joined : {p : BareContext} {text out : List ℕ} → IsJoined p text out → text ≡ [] → out ≡ []
nothing_joined j.at_end e = refl
nothing_joined (j.continued x h) e = absurd cc
nothing_joined (j.quoted x y h) e = absurd cc
nothing_joined (j.last x) e = absurd cc
nothing_joined (j.other x h) e = absurd cc

variable_left : (text name rest out : List ℕ) → IsVariable text name rest → IsJoined Word rest out → LeavesPart text rest out
variable_left text name rest out v h =
    let p = variable_plain v in
    let nil : p.name ++ [] ≡ p.name = append-nil p.name in
    subst (λ (t : List ℕ). LeavesPart t rest out) (sym p.is) (record {
      part = dollar ∷ p.name;
      left = dollar ∷ p.name;
      is = refl;
      kept = k.elsewhere refl (k.byte refl (subst (λ (t : List ℕ). IsSpliced t t) nil (run_spliced p.name [] [] p.plain k.nothing)));
      joined = byte_on Word Word dollar (p.name ++ rest) (p.name ++ out) refl refl (run_on Word word_after p.name rest out p.plain h);
    })

is_plain_byte : (b : ℕ) → expands_bare b ≡ false → ends_word b ≡ false → is_plain b ≡ true
is_plain_byte b plain more =
    rw (special backslash refl, special double_quote refl, special single_quote refl, ends 32 refl, ends 9 refl, ends 10 refl, ends 59 refl) refl where
      special : (c : ℕ) → expands_bare c ≡ true → (b == c) ≡ false
      special c h =
          elim (cases_Bool (b == c)) [
            | inl same ↦ let e : true ≡ false = sym h ∙ sym (ap expands_bare (eqb-true b c same)) ∙ plain in absurd cc
            | inr other ↦ other
          ]

      ends : (c : ℕ) → ends_word c ≡ true → (b == c) ≡ false
      ends c h =
          elim (cases_Bool (b == c)) [
            | inl same ↦ let e : true ≡ false = sym h ∙ sym (ap ends_word (eqb-true b c same)) ∙ more in absurd cc
            | inr other ↦ other
          ]

plain_left : (b : ℕ) (rest out : List ℕ) → is_plain b ≡ true → IsJoined Word rest out → LeavesPart (b ∷ rest) rest out
plain_left b rest out plain h =
    let p = plain_of b plain in
    record {
      part = b ∷ [];
      left = b ∷ [];
      is = refl;
      kept = k.elsewhere p.single (k.byte p.backslash k.nothing);
      joined = byte_on Word Word b rest out p.backslash (word_after b p) h;
    }

single_left : (inside rest out : List ℕ) → has_no single_quote inside ≡ true → IsJoined Word rest out → LeavesPart (single_quote ∷ (inside ++ single_quote ∷ rest)) rest out
single_left inside rest out none h = record {
  part = single_quote ∷ (inside ++ single_quote ∷ []);
  left = single_quote ∷ (inside ++ single_quote ∷ []);
  is = ap (λ (t : List ℕ). single_quote ∷ t) (sym (append_assoc inside (single_quote ∷ []) rest));
  kept = k.in_single;
  joined = subst (λ (t : List ℕ). IsJoined Word (single_quote ∷ (inside ++ single_quote ∷ rest)) (single_quote ∷ t)) (sym (append_assoc inside (single_quote ∷ []) out))
      (byte_on Word Single single_quote (inside ++ single_quote ∷ rest) (inside ++ single_quote ∷ out) refl refl (single_on inside rest out none h));
}

spliced_on : {front left : List ℕ} → IsSpliced front left → IsSpliced (front ++ double_quote ∷ []) (left ++ double_quote ∷ [])
spliced_on k.nothing = k.byte refl k.nothing
spliced_on (k.continued h) = k.continued (spliced_on h)
spliced_on (k.escaped line h) = k.escaped line (spliced_on h)
spliced_on k.last_backslash = k.escaped refl k.nothing
spliced_on (k.byte plain h) = k.byte plain (spliced_on h)

double_left : (text rest out : List ℕ) (parts : List Part) → AreDoubleParts text parts (double_quote ∷ rest) → IsJoined Word rest out → LeavesPart (double_quote ∷ text) rest out
double_left text rest out parts quoted h =
    let d = in_double quoted rest refl in
    record {
      part = double_quote ∷ (d.front ++ double_quote ∷ []);
      left = double_quote ∷ (d.left ++ double_quote ∷ []);
      is = ap (λ (t : List ℕ). double_quote ∷ t) (d.is ∙ sym (append_assoc d.front (double_quote ∷ []) rest));
      kept = k.elsewhere refl (k.byte refl (spliced_on d.spliced));
      joined = subst (λ (t : List ℕ). IsJoined Word (double_quote ∷ text) (double_quote ∷ t)) (sym (append_assoc d.left (double_quote ∷ []) out))
          (byte_on Word Double double_quote text (d.left ++ double_quote ∷ out) refl refl (d.joined (double_quote ∷ out) (byte_on Double Word double_quote rest out refl refl h)));
    }

pub part_left : {text rest : List ℕ} {parts : List Part} → IsWordPart text parts rest → (out : List ℕ) → IsJoined Word rest out → LeavesPart text rest out
part_left (w.single_quoted {rest} inside none) out h = single_left inside rest out none h
part_left (w.double_quoted {text} {rest} {parts} quoted) out h = double_left text rest out parts quoted h
part_left (w.escaped {b} {rest}) out h = escaped_left b rest out h
part_left w.last_backslash out h =
    subst (λ (t : List ℕ). LeavesPart (backslash ∷ []) [] t) (sym (nothing_joined h refl))
    (record { part = backslash ∷ []; left = backslash ∷ []; is = refl; kept = k.elsewhere refl k.last_backslash; joined = j.last refl })
part_left (w.variable {text} {name} {rest} v) out h = variable_left text name rest out v h
part_left (w.lone_dollar {rest} x) out h = plain_left dollar rest out refl h
part_left (w.byte {b} {rest} plain more) out h = plain_left b rest out (is_plain_byte b plain more) h

-- ---- no line continuation remains

pub joined_again : {p : BareContext} {text out : List ℕ} → IsJoined p text out → IsJoined p out out
joined_again j.at_end = j.at_end
joined_again (j.continued x h) = joined_again h
joined_again (j.quoted x line h) = j.quoted x line (joined_again h)
joined_again (j.last x) = j.last x
joined_again (j.other x h) = j.other x (joined_again h)
