-- Loops over the lines of a text, and over the items of a record.
use Rattle.std.proofs.Common.{◌≡◌, ℕ, ◌+◌, ◌<◌, ◌≤◌, Bool, List, [], ◌∷◌, ◌++◌, Bor, length, drop, take, get_or, map, Option, Some, None, Result, Ok, Err, refl, ap, ◌∙◌, sym, subst, append_assoc, arith}
use Rattle.std.specs.List.{slice_get}
use Rattle.std.proofs.lemmas.List.{drop_more, take_more, map-append, length-map}
use Rattle.std.proofs.lemmas.Grind.{flat_map-append}
use Rattle.std.proofs.lemmas.Option.{slice_get_within, get_or_from_slice_get}
use Rattle.std.proofs.Math.ListN.{drop_of_length-le, get_or-map}
use Rattle.status_record.specs.declared.fault.RecordFault.{RecordFault}
use Rattle.status_record.specs.declared.fault.RecordFault.TheVariants.{OutOfMemory}
use Rattle.std.specs.Prelude.{codes, option_map, IsErrAnd}
use Rattle.status_record.specs.declared.record.Record.{Record}
use Rattle.status_record.specs.Escape.{escaped}
use Rattle.status_record.specs.Line.{after_prefix, ended, entry_fields, output_fields}
use Rattle.status_record.specs.RecordText.{lines_of, version_line, arg_lines, record_text}
use Rattle.status_record.specs.Reading.{several, with_item, either, Fails, Gives, Read, last_of, front_of}
use Rattle.fallible.specs.Reading.{◌>>=◌}

fails_first : {A B : Type 0} (f : RecordFault) (r : Result A RecordFault) (k : A → Result B RecordFault) (total : Result B RecordFault) → (r >>= k) ≡ total → Fails f r → Fails f total
fails_first OutOfMemory r k total e h = tt
fails_first f r k total e h = sym e ∙ ap (λ x. x >>= k) h

abbrev pub texts : List (Bor (List ℕ)) → List (List ℕ)
texts lines = map (λ t. t.now) lines

at_line : (i : ℕ) (lines : List (Bor (List ℕ))) (d : Bor (List ℕ)) → i < length lines → drop i (texts lines) ≡ (get_or lines i d).now ∷ drop (i + 1) (texts lines)
at_line i lines d lt =
    let e = length-map lines (λ (t : Bor (List ℕ)). t.now) in
    let within : i < length (texts lines) = omega (arith, e) in
    drop_more (texts lines) i d.now within ∙ ap (λ t. t ∷ drop (i + 1) (texts lines)) (get_or-map (λ (t : Bor (List ℕ)). t.now) lines i d)

module _ {A : Type 0} (keyword : List ℕ) (read : List ℕ → Option A) (given : List A → A → Bool) (items : List A) (i : ℕ) (lines : List (Bor (List ℕ))) (total : Result (Read (List A)) RecordFault) (h : several keyword read given items i (drop i (texts lines)) ≡ total) where
  abbrev pub later : List A → Result (Read (List A)) RecordFault
  later now = several keyword read given now (i + 1) (drop (i + 1) (texts lines))

  module _ (d : Bor (List ℕ)) (found : Option (Bor (List ℕ))) (lt : i < length lines) (e : option_map (λ t. t.now) found ≡ after_prefix keyword (get_or lines i d).now) where
    -- the lines from index i on are that line, by what was found in it, and those after it
    from_line : (o : Option (Bor (List ℕ))) → found ≡ o → total ≡ either (option_map (λ t. t.now) o) (λ fields. with_item read given items (i + 1) fields >>= later) (Ok (items, (i, drop i (texts lines))))
    unfolding several
    from_line o is =
        sym h ∙ ap (several keyword read given items i) (at_line i lines d lt)
        ∙ ap (λ o. either o (λ fields. with_item read given items (i + 1) fields >>= later) (Ok (items, (i, (get_or lines i d).now ∷ drop (i + 1) (texts lines))))) (sym e ∙ ap (option_map (λ t. t.now)) is)
        ∙ ap (λ l. either (option_map (λ t. t.now) o) (λ fields. with_item read given items (i + 1) fields >>= later) (Ok (items, (i, l)))) (sym (at_line i lines d lt))

    pub several_more : (now : List A) (fields : Bor (List ℕ)) → found ≡ Some fields → with_item read given items (i + 1) fields.now ≡ Ok now → later now ≡ total
    several_more now fields is one = sym (from_line (Some fields) is ∙ ap (λ r. r >>= later) one)

    pub several_fails : {X : Type 0} (view : X → Read (List A)) (result : Result X RecordFault) (f : RecordFault) (fields : Bor (List ℕ)) → found ≡ Some fields
        → Fails f (with_item read given items (i + 1) fields.now) → IsErrAnd result (λ e. e ≡ f) → Gives view result total
    several_fails view (Ok x) f fields is bad s = absurd s
    several_fails view (Err g) f fields is bad s =
        subst (λ g. Fails g total) (sym s) (fails_first f (with_item read given items (i + 1) fields.now) later total (sym (from_line (Some fields) is)) bad)

    pub several_other : found ≡ None → total ≡ Ok (items, (i, drop i (texts lines)))
    several_other is = from_line None is

  pub several_end : length lines ≤ i → i ≤ length lines → total ≡ Ok (items, (length lines, drop (length lines) (texts lines)))
  unfolding several
  several_end le ge =
      let is : i ≡ length lines = omega arith in
      let e = length-map lines (λ (t : Bor (List ℕ)). t.now) in
      let past : length (texts lines) ≤ i = omega (arith, e) in
      let none : drop i (texts lines) ≡ [] = drop_of_length-le (texts lines) past in
      sym h ∙ ap (several keyword read given items i) none ∙ ap (λ l. Ok (items, (i, l))) (sym none) ∙ ap (λ n. Ok (items, (n, drop n (texts lines)))) is

-- ---- writing

-- one line more
pub lines_more : {A : Type 0} (keyword : List ℕ) (fields : A → List ℕ) (start now next : List ℕ) (xs : List A) (i : ℕ) (x : A) → slice_get xs i ≡ Some x
    → now ≡ start ++ ended (lines_of keyword fields (take i xs)) → next ≡ now ++ ended ((keyword ++ fields x) ∷ [])
    → next ≡ start ++ ended (lines_of keyword fields (take (i + 1) xs))
lines_more keyword fields start now next xs i x is so_far put =
    let one : take (i + 1) xs ≡ take i xs ++ x ∷ [] = take_more xs i x (slice_get_within xs i x is) ∙ ap (λ y. take i xs ++ y ∷ []) (get_or_from_slice_get xs i x x is) in
    let more : ended (lines_of keyword fields (take (i + 1) xs)) ≡ ended (lines_of keyword fields (take i xs)) ++ ended ((keyword ++ fields x) ∷ []) =
    ap (λ l. ended (lines_of keyword fields l)) one ∙ ap ended (map-append (λ x. keyword ++ fields x) (take i xs) (x ∷ []))
    ∙ flat_map-append (λ (l : List ℕ). l ++ 10 ∷ []) (lines_of keyword fields (take i xs)) ((keyword ++ fields x) ∷ []) in
    put ∙ ap (λ t. t ++ ended ((keyword ++ fields x) ∷ [])) so_far ∙ append_assoc start (ended (lines_of keyword fields (take i xs))) (ended ((keyword ++ fields x) ∷ [])) ∙ ap (λ t. start ++ t) (sym more)

-- ---- the last of the parts

pub last_of-end : (front : List (List ℕ)) (x : List ℕ) → last_of (front ++ x ∷ []) ≡ x
unfolding last_of
last_of-end [] x = refl
last_of-end (f ∷ []) x = refl
last_of-end (f ∷ g ∷ front) x = last_of-end (g ∷ front) x

pub front_of-end : (front : List (List ℕ)) (x : List ℕ) → front_of (front ++ x ∷ []) ≡ front
unfolding front_of
front_of-end [] x = refl
front_of-end (f ∷ []) x = refl
front_of-end (f ∷ g ∷ front) x = ap (λ t. f ∷ t) (front_of-end (g ∷ front) x)

pub none_of : {X : Type 0} (xs : List X) → length xs ≡ 0 → xs ≡ []
none_of [] e = refl
none_of (x ∷ xs) e = absurd (omega arith)

pub texts-end : (items front : List (Bor (List ℕ))) (x : Bor (List ℕ)) → items ≡ front ++ x ∷ [] → texts items ≡ texts front ++ x.now ∷ []
texts-end items front x e = ap texts e ∙ map-append (λ (t : Bor (List ℕ)). t.now) front (x ∷ [])

-- ---- a record's text, put line by line

put_more : (l m : List (List ℕ)) (now next : List ℕ) → now ≡ ended l → next ≡ now ++ ended m → next ≡ ended (l ++ m)
put_more l m now next is put = put ∙ ap (λ t. t ++ ended m) is ∙ sym (flat_map-append (λ (t : List ℕ). t ++ 10 ∷ []) l m)

in_order : {X : Type 0} (z a b c d e : List X) → ((((z ++ a) ++ b) ++ c) ++ d) ++ e ≡ z ++ (a ++ (b ++ (c ++ (d ++ e))))
in_order z a b c d e =
    append_assoc (((z ++ a) ++ b) ++ c) d e ∙ append_assoc ((z ++ a) ++ b) c (d ++ e) ∙ append_assoc (z ++ a) b (c ++ (d ++ e)) ∙ append_assoc z a (b ++ (c ++ (d ++ e)))

pub written : (r : Record) (o0 o1 o2 o3 o4 o5 o6 o7 o8 : List ℕ) → o0 ≡ [] → o1 ≡ o0 ++ ended (version_line r.args ∷ []) → o2 ≡ o1 ++ ended ((codes "srcdir " ++ escaped r.srcdir) ∷ [])
    → o3 ≡ o2 ++ ended (arg_lines r.args)
    → o4 ≡ o3 ++ ended (lines_of (codes "var ") entry_fields r.vars) → o5 ≡ o4 ++ ended (lines_of (codes "def ") entry_fields r.defs)
    → o6 ≡ o5 ++ ended (lines_of (codes "file ") output_fields r.files) → o7 ≡ o6 ++ ended (lines_of (codes "header ") output_fields r.headers)
    → o8 ≡ o7 ++ ended (codes "end" ∷ []) → o8 ≡ record_text r
unfolding record_text
written r o0 o1 o2 o3 o4 o5 o6 o7 o8 e0 e1 e2 e3 e4 e5 e6 e7 e8 =
    let first = version_line r.args in
    let second = codes "srcdir " ++ escaped r.srcdir in
    let z = arg_lines r.args in
    let a = lines_of (codes "var ") entry_fields r.vars in
    let b = lines_of (codes "def ") entry_fields r.defs in
    let c = lines_of (codes "file ") output_fields r.files in
    let d = lines_of (codes "header ") output_fields r.headers in
    let f2 = put_more (first ∷ []) (second ∷ []) o1 o2 (e1 ∙ ap (λ t. t ++ ended (first ∷ [])) e0) e2 in
    let f3 = put_more (first ∷ second ∷ []) z o2 o3 f2 e3 in
    let f4 = put_more (first ∷ second ∷ z) a o3 o4 f3 e4 in
    let f5 = put_more (first ∷ second ∷ (z ++ a)) b o4 o5 f4 e5 in
    let f6 = put_more (first ∷ second ∷ ((z ++ a) ++ b)) c o5 o6 f5 e6 in
    let f7 = put_more (first ∷ second ∷ (((z ++ a) ++ b) ++ c)) d o6 o7 f6 e7 in
    let f8 = put_more (first ∷ second ∷ ((((z ++ a) ++ b) ++ c) ++ d)) (codes "end" ∷ []) o7 o8 f7 e8 in
    f8 ∙ ap (λ t. ended (first ∷ second ∷ t)) (in_order z a b c d (codes "end" ∷ []))
