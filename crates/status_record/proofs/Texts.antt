-- Texts cut into lines and fields: bytes that they lack, and where they are cut.
use Rattle.std.proofs.Common.{◌≡◌, ℕ, ◌+◌, ◌<◌, Bool, true, false, cond, ◌&&◌, not, List, [], ◌∷◌, ◌++◌, length, take, drop, get_or, refl, ap, ◌∙◌, sym, append_assoc, arith, suc, zero}
use Rattle.std.specs.Prelude.{Option, Some, None, option_map, ◌==◌, nat_lt, position}
use Rattle.std.specs.List.{list_all, AllByRecursion, position_or_len, onto_first}
use Rattle.std.proofs.lemmas.List.{drop_more}
use Rattle.std.proofs.lemmas.List.Folds.{list_all-append}
use Rattle.std.proofs.lemmas.List.Quantifiers.{position-Some}
use Rattle.std.proofs.lemmas.Bool.{cond-true, cond-false, and_from}
use Rattle.std.proofs.lemmas.Bool.Decides.{Decides-eqb, nat_tests}
use Rattle.deftable.specs.ShellName.{is_shell_name_of, starts_name, continues_name}
use Rattle.text_cut.specs.Cuts.{parts, parts_by}
use Rattle.text_cut.proofs.Laws.{parts-some}
use Rattle.status_record.specs.Escape.{escaped_byte, escaped}
use Rattle.status_record.specs.Line.{ended, cut}
use Rattle.output_list.specs.Path.{is_path, is_path_byte}
use Rattle.status_record.specs.Reading.{last_of, front_of}

-- the byte doesn't occur in the text
abbrev pub lacks : ℕ → List ℕ → Bool
lacks n text = list_all (λ b. not (b == n)) text

pub first_of : (a b : Bool) → a && b ≡ true → a ≡ true
first_of true b e = refl
first_of false b e = cc

pub second_of : (a b : Bool) → a && b ≡ true → b ≡ true
second_of true b e = e
second_of false b e = absurd cc

-- a byte that passes a test is not one that fails it
differs : (test : ℕ → Bool) (n b : ℕ) → test n ≡ false → test b ≡ true → not (b == n) ≡ true
differs test n b fails passes =
    elim (b == n) as (λ t. b == n ≡ t → not t ≡ true) [
      | true ↦ λ is. let same : b ≡ n = (Decides-eqb b n).0 is in let e : test b ≡ false = ap test same ∙ fails in absurd cc
      | false ↦ λ _. refl
    ] refl

lacks_by : (test : ℕ → Bool) (n : ℕ) → test n ≡ false → (text : List ℕ) → list_all test text ≡ true → lacks n text ≡ true
lacks_by test n fails [] h = refl
lacks_by test n fails (b ∷ bs) h =
    and_from _ _ (differs test n b fails (first_of (test b) (list_all test bs) h)) (lacks_by test n fails bs (second_of (test b) (list_all test bs) h))

pub lacks-append : (n : ℕ) (a b : List ℕ) → lacks n a ≡ true → lacks n b ≡ true → lacks n (a ++ b) ≡ true
lacks-append n a b e f = list_all-append (λ c. not (c == n)) a b ∙ and_from _ _ e f

shell_lacks : (n : ℕ) → starts_name n ≡ false → continues_name n ≡ false → (name : List ℕ) → is_shell_name_of name ≡ true → lacks n name ≡ true
shell_lacks n s c [] h = refl
shell_lacks n s c (b ∷ bs) h =
    and_from _ _ (differs starts_name n b s (first_of (starts_name b) _ h)) (lacks_by continues_name n c bs (second_of (starts_name b) _ h))

pub shell_lacks_blank : (name : List ℕ) → is_shell_name_of name ≡ true → lacks 32 name ≡ true
shell_lacks_blank name h = shell_lacks 32 refl refl name h

pub shell_lacks_newline : (name : List ℕ) → is_shell_name_of name ≡ true → lacks 10 name ≡ true
shell_lacks_newline name h = shell_lacks 10 refl refl name h

pub path_lacks_blank : (path : List ℕ) → is_path path ≡ true → lacks 32 path ≡ true
unfolding is_path
path_lacks_blank path h = lacks_by is_path_byte 32 refl path (first_of (list_all is_path_byte path) _ h)

-- ---- escaped texts

escaped_byte_lacks_newline : (b : ℕ) → lacks 10 (escaped_byte b) ≡ true
unfolding escaped_byte
escaped_byte_lacks_newline b =
    elim (b == 92) as (λ t. lacks 10 (cond t (92 ∷ 92 ∷ []) (cond (b == 10) (92 ∷ 110 ∷ []) (b ∷ []))) ≡ true) [
      | true ↦ refl
      | false ↦ elim (b == 10) as (λ t. b == 10 ≡ t → lacks 10 (cond t (92 ∷ 110 ∷ []) (b ∷ [])) ≡ true) [
        | true ↦ λ _. refl
        | false ↦ λ e. ap (λ t. not t && true) e
      ] refl
    ]

pub escaped_lacks_newline : (v : List ℕ) → lacks 10 (escaped v) ≡ true
escaped_lacks_newline [] = refl
escaped_lacks_newline (b ∷ v) = lacks-append 10 (escaped_byte b) (escaped v) (escaped_byte_lacks_newline b) (escaped_lacks_newline v)

escaped_byte_lacks_blank : (b : ℕ) → not (b == 32) ≡ true → lacks 32 (escaped_byte b) ≡ true
unfolding escaped_byte
escaped_byte_lacks_blank b h =
    elim (b == 92) as (λ t. lacks 32 (cond t (92 ∷ 92 ∷ []) (cond (b == 10) (92 ∷ 110 ∷ []) (b ∷ []))) ≡ true) [
      | true ↦ refl
      | false ↦ elim (b == 10) as (λ t. lacks 32 (cond t (92 ∷ 110 ∷ []) (b ∷ [])) ≡ true) [
        | true ↦ refl
        | false ↦ and_from _ _ h refl
      ]
    ]

pub escaped_lacks_blank : (v : List ℕ) → lacks 32 v ≡ true → lacks 32 (escaped v) ≡ true
escaped_lacks_blank [] h = refl
escaped_lacks_blank (b ∷ v) h =
    lacks-append 32 (escaped_byte b) (escaped v) (escaped_byte_lacks_blank b (first_of (not (b == 32)) _ h)) (escaped_lacks_blank v (second_of (not (b == 32)) _ h))

-- ---- the first blank

abbrev is_space : ℕ → Bool
is_space b = b == 32

space_at : (first rest : List ℕ) → lacks 32 first ≡ true → position_or_len is_space (first ++ 32 ∷ rest) ≡ length first
space_at [] rest h = refl
space_at (b ∷ bs) rest h =
    let later = space_at bs rest (second_of (not (b == 32)) _ h) in
    let one : 1 + length bs ≡ suc (length bs) = omega arith in
    cond-true _ _ _ (first_of (not (b == 32)) _ h) ∙ ap (λ n. 1 + n) later ∙ one

front_is : (first rest : List ℕ) → take (length first) (first ++ 32 ∷ rest) ≡ first
front_is [] rest = refl
front_is (b ∷ bs) rest = ap (λ t. b ∷ t) (front_is bs rest)

rest_is : (first rest : List ℕ) → drop (length first + 1) (first ++ 32 ∷ rest) ≡ rest
rest_is [] rest = refl
rest_is (b ∷ bs) rest =
    let e : suc (length bs) + 1 ≡ suc (length bs + 1) = omega arith in
    ap (λ n. drop n (b ∷ (bs ++ 32 ∷ rest))) e ∙ rest_is bs rest

inside : (first rest : List ℕ) → nat_lt (length first) (length (first ++ 32 ∷ rest)) ≡ true
inside [] rest =
    let e : nat_lt 0 (suc (length rest)) ≡ true = grind (arith, nat_tests) in e
inside (b ∷ bs) rest =
    let later = inside bs rest in
    let e : nat_lt (suc (length bs)) (suc (length (bs ++ 32 ∷ rest))) ≡ true = grind (arith, nat_tests, later) in e

pub cut_back : (first rest : List ℕ) → lacks 32 first ≡ true → cut (first ++ 32 ∷ rest) ≡ Some (first, rest)
cut_back first rest h =
    let t = first ++ 32 ∷ rest in
    ap (λ n. option_map (λ i. (take i t, drop (i + 1) t)) (cond (nat_lt n (length t)) (Some n) None)) (space_at first rest h)
    ∙ ap (λ b. option_map (λ i. (take i t, drop (i + 1) t)) (cond b (Some (length first)) None)) (inside first rest)
    ∙ ap (λ a. Some (a, drop (length first + 1) t)) (front_is first rest) ∙ ap (λ a. Some (first, a)) (rest_is first rest)

take_drop : (i : ℕ) (xs : List ℕ) → xs ≡ take i xs ++ drop i xs
take_drop zero xs = refl
take_drop (suc i) [] = refl
take_drop (suc i) (x ∷ xs) = ap (λ t. x ∷ t) (take_drop i xs)

some_pair : (a b : List ℕ × List ℕ) → Some a ≡ Some b → a ≡ b
some_pair a b e = cc

pub cut_only : (fields : List ℕ) (f : List ℕ × List ℕ) → cut fields ≡ Some f → fields ≡ f.0 ++ 32 ∷ f.1
cut_only fields f e = from (position is_space fields) refl e
  where
    from : (o : Option ℕ) → position is_space fields ≡ o → option_map (λ i. (take i fields, drop (i + 1) fields)) o ≡ Some f → fields ≡ f.0 ++ 32 ∷ f.1
    from None is h = absurd cc
    from (Some i) is h =
        let p = position-Some is_space fields i 0 is in
        let blank : get_or fields i 0 ≡ 32 = (Decides-eqb (get_or fields i 0) 32).0 p.1 in
        let same : (take i fields, drop (i + 1) fields) ≡ f = some_pair (take i fields, drop (i + 1) fields) f h in
        take_drop i fields ∙ ap (λ t. take i fields ++ t) (drop_more fields i 0 p.0) ∙ ap (λ b. take i fields ++ b ∷ drop (i + 1) fields) blank
        ∙ ap (λ q. q.0 ++ 32 ∷ q.1) same

-- ---- lines

pub parts_line : (line rest : List ℕ) → lacks 10 line ≡ true → parts 10 (line ++ 10 ∷ rest) ≡ line ∷ parts 10 rest
unfolding parts parts_by
parts_line [] rest h = refl
parts_line (b ∷ bs) rest h =
    cond-false _ _ _ (unlike (b == 10) (first_of (not (b == 10)) _ h)) ∙ ap (onto_first b) (parts_line bs rest (second_of (not (b == 10)) _ h))
  where
    unlike : (t : Bool) → not t ≡ true → t ≡ false
    unlike true e = cc
    unlike false e = refl

abbrev pub AreLines : List (List ℕ) → Type 0
AreLines lines = AllByRecursion (λ l. lacks 10 l ≡ true) lines

pub parts_ended : (lines : List (List ℕ)) → AreLines lines → parts 10 (ended lines) ≡ lines ++ [] ∷ []
unfolding parts parts_by
parts_ended [] all = refl
parts_ended (l ∷ ls) all =
    ap (parts 10) (append_assoc l (10 ∷ []) (ended ls)) ∙ parts_line l (ended ls) all.0 ∙ ap (λ t. l ∷ t) (parts_ended ls all.1)

-- the lines that a newline ends, and the text after the last newline
abbrev pub joined : List (List ℕ) → List ℕ
joined ps = ended (front_of ps) ++ last_of ps

newline_joined : (ps : List (List ℕ)) → 0 < length ps → joined ([] ∷ ps) ≡ 10 ∷ joined ps
unfolding front_of last_of
newline_joined [] some = absurd (omega arith)
newline_joined (p ∷ ps) some = refl

byte_joined : (b : ℕ) (ps : List (List ℕ)) → joined (onto_first b ps) ≡ b ∷ joined ps
unfolding front_of last_of
byte_joined b [] = refl
byte_joined b (p ∷ []) = refl
byte_joined b (p ∷ q ∷ ps) = refl

pub parts_joined : (text : List ℕ) → text ≡ joined (parts 10 text)
unfolding parts parts_by front_of last_of
parts_joined [] = refl
parts_joined (b ∷ bs) =
    elim (b == 10) as (λ t. b == 10 ≡ t → b ∷ bs ≡ joined (cond t ([] ∷ parts 10 bs) (onto_first b (parts 10 bs)))) [
      | true ↦ λ is. ap (λ n. n ∷ bs) ((Decides-eqb b 10).0 is) ∙ ap (λ t. 10 ∷ t) (parts_joined bs) ∙ sym (newline_joined (parts 10 bs) (parts-some 10 bs))
      | false ↦ λ _. ap (λ t. b ∷ t) (parts_joined bs) ∙ sym (byte_joined b (parts 10 bs))
    ] refl
