-- Templates that are read, one output after the other.
use Rattle.std.proofs.lemmas.Bool.{true≢false}
use Rattle.std.proofs.Common.{IfOk, IfSome, ◌≡◌, ℕ, ◌+◌, ◌<◌, Bool, true, false, cond, is_some, Result, Ok, Err, OnOk, List, [], ◌∷◌, ◌++◌, Option, Some, None, ◌≤◌, length, take, get_or, refl, sym, ap, subst, ◌∙◌, append_assoc}
use Rattle.std.specs.Prelude.{All, bytes_eq}
use Rattle.std.specs.List.{Contains}
use Rattle.std.proofs.lemmas.List.{append-nil, take_all, take_more}
use Rattle.std.proofs.lemmas.List.Elements.{All-nil, All-push, Contains-append_left, Contains-push}
use Rattle.std.proofs.lemmas.Slice.Eq.{bytes_eq-Decides}
use Rattle.deftable.specs.Table.{value_of, with_entry}
use Rattle.deftable.proofs.Tables.{value_of-[], value_of-with_entry}
use Rattle.file_disk.specs.Known.{Known}
use Rattle.file_texts.specs.Names.{IsFileName}
use Rattle.file_texts.specs.Places.{is_own}
use Rattle.file_texts.specs.Reading.{IsReadWhole}
use Rattle.output_list.specs.declared.output.Output.{Output}
use Rattle.cmd_call.specs.Supplies.{AreLookedFor, AreTemplates, HasTemplate, IsTemplateRead, ReadsTemplate, entry_of}

-- ---- one template

-- A template whose path a run has for itself counts as not there.
pub own_unread : (known : Option Known) (path : List ℕ) (own : Bool) → own ≡ true → (own ≡ true → IsFileName path)
    → (IsFileName path → IfSome known (λ k. own ≡ is_own k path))
    → IfSome known (λ k. IsTemplateRead k path (is_own k path) None)
own_unread None path own is file value = tt
own_unread (Some k) path own is file value = subst (λ b. IsTemplateRead k path b None) (sym is ∙ value (file is)) refl

read_if : (k : Known) (path : List ℕ) (read : Option (List ℕ)) (own : Bool) → IsReadWhole k path read → IfSome read (λ text. own ≡ false) → IsTemplateRead k path own read
read_if k path None true is free = refl
read_if k path (Some text) true is free = absurd (true≢false free)
read_if k path read false is free = is

free_if : (k : Known) (path : List ℕ) (read : Option (List ℕ)) (own : Bool) → own ≡ false → (IsFileName path → own ≡ is_own k path)
    → IfSome read (λ text. IsFileName path) → IfSome read (λ text. is_own k path ≡ false)
free_if k path None own is value file = tt
free_if k path (Some text) own is value file = sym (value file) ∙ is

-- Any other template is read whole.
pub read_other : {E : Type 0} (r : Result (Option (List ℕ)) E) (known : Option Known) (path : List ℕ) (own : Bool) → own ≡ false
    → (IsFileName path → IfSome known (λ k. own ≡ is_own k path))
    → IfOk r (λ read. IfSome read (λ text. IsFileName path)) → IfOk r (λ read. IfSome known (λ k. IsReadWhole k path read))
    → IfOk r (λ read. IfSome known (λ k. IsTemplateRead k path (is_own k path) read))
read_other (Err e) known path own is value file whole = tt
read_other (Ok read) None path own is value file whole = tt
read_other (Ok read) (Some k) path own is value file whole =
    read_if k path read (is_own k path) whole (free_if k path read own is value file)

-- ---- one output after the other

-- What was looked for before is there afterwards too.
still_there : (files : Option Known) (srcdir name : List ℕ) (ts more : List (List ℕ × List ℕ)) → HasTemplate files srcdir ts name → HasTemplate files srcdir (ts ++ more) name
still_there files srcdir name ts more (None, r, h) = (None, r, tt)
still_there files srcdir name ts more (Some text, r, h) = (Some text, r, Contains-append_left ts more (name, text) h)

none_yet : (files : Option Known) (srcdir : List ℕ) → AreTemplates files srcdir [] []
none_yet files srcdir = record {
  sound = All-nil (λ (t : List ℕ × List ℕ). ReadsTemplate files srcdir t.0 (Some t.1));
  complete = All-nil (λ (output : Output). HasTemplate files srcdir [] output.template);
}

-- A template that was just looked for
read_now : (files : Option Known) (srcdir : List ℕ) (before : List Output) (output : Output) (ts : List (List ℕ × List ℕ)) (read : Option (List ℕ)) → AreTemplates files srcdir before ts
    → ReadsTemplate files srcdir output.template read → AreTemplates files srcdir (before ++ output ∷ []) (ts ++ entry_of output.template read)
read_now files srcdir before output ts None a r =
    let whole : AreTemplates files srcdir (before ++ output ∷ []) ts = record {
      sound = a.sound;
      complete = All-push (λ (o : Output). HasTemplate files srcdir ts o.template) before output a.complete (None, r, tt);
    } in
    subst (λ l. AreTemplates files srcdir (before ++ output ∷ []) l) (sym (append-nil ts)) whole
read_now files srcdir before output ts (Some text) a r =
    let more : List (List ℕ × List ℕ) = (output.template, text) ∷ [] in
    record {
      sound = All-push (λ (t : List ℕ × List ℕ). ReadsTemplate files srcdir t.0 (Some t.1)) ts (output.template, text) a.sound r;
      complete = All-push (λ (o : Output). HasTemplate files srcdir (ts ++ more) o.template) before output
          (λ k d lt. still_there files srcdir _ ts more (a.complete k d lt)) (Some text, r, Contains-push ts (output.template, text));
    }

pub read_next : (files : Option Known) (srcdir : List ℕ) (before : List Output) (output : Output) (ts new : List (List ℕ × List ℕ)) (read : Option (List ℕ)) → AreTemplates files srcdir before ts
    → ReadsTemplate files srcdir output.template read → new ≡ ts ++ entry_of output.template read → AreTemplates files srcdir (before ++ output ∷ []) new
read_next files srcdir before output ts new read a r is =
    subst (λ l. AreTemplates files srcdir (before ++ output ∷ []) l) (sym is) (read_now files srcdir before output ts read a r)

-- ---- with the names that were looked for

by_name : {P : Type 0} (same : Bool) (v : List ℕ) (rest : Option (List ℕ)) → (same ≡ true → P) → (is_some rest ≡ true → P) → is_some (cond same (Some v) rest) ≡ true → P
by_name true v rest if_same if_kept found = if_same refl
by_name false v rest if_same if_kept found = if_kept found

-- A template that was just looked for is there if it was read.
looked_now : (files : Option Known) (srcdir name : List ℕ) (ts : List (List ℕ × List ℕ)) (read : Option (List ℕ)) → ReadsTemplate files srcdir name read → HasTemplate files srcdir (ts ++ entry_of name read) name
looked_now files srcdir name ts None r = (None, r, tt)
looked_now files srcdir name ts (Some text) r = (Some text, r, Contains-push ts (name, text))

-- A template that is looked for
looked_next : (files : Option Known) (srcdir : List ℕ) (before : List Output) (output : Output) (names later ts new : List (List ℕ × List ℕ)) (value : List ℕ) (read : Option (List ℕ))
    → AreLookedFor files srcdir before names ts → ReadsTemplate files srcdir output.template read → new ≡ ts ++ entry_of output.template read → later ≡ with_entry names output.template value
    → AreLookedFor files srcdir (before ++ output ∷ []) later new
looked_next files srcdir before output names later ts new value read a r is set = record {
  read = read_next files srcdir before output ts new read a.read r is;
  looked = λ q found.
      let e : value_of later q ≡ cond (bytes_eq q output.template) (Some value) (value_of names q) = ap (λ l. value_of l q) set ∙ value_of-with_entry names output.template value q in
      subst (λ l. HasTemplate files srcdir l q) (sym is)
      (by_name (bytes_eq q output.template) value (value_of names q)
      (λ same. subst (λ n. HasTemplate files srcdir (ts ++ entry_of output.template read) n) (sym ((bytes_eq-Decides q output.template).0 same)) (looked_now files srcdir output.template ts read r))
      (λ old. still_there files srcdir q ts (entry_of output.template read) (a.looked q old))
      (sym (ap is_some e) ∙ found));
}

-- The outputs up to the next one
pub up_to : (files : Option Known) (srcdir : List ℕ) (before outputs : List Output) (i : ℕ) (output : Output) (names ts : List (List ℕ × List ℕ)) → i < length outputs → output ≡ get_or outputs i output
    → AreLookedFor files srcdir ((before ++ take i outputs) ++ output ∷ []) names ts → AreLookedFor files srcdir (before ++ take (i + 1) outputs) names ts
up_to files srcdir before outputs i output names ts lt at a =
    let next : take i outputs ++ output ∷ [] ≡ take (i + 1) outputs = ap (λ o. take i outputs ++ o ∷ []) at ∙ sym (take_more outputs i output lt) in
    subst (λ l. AreLookedFor files srcdir l names ts) (append_assoc before (take i outputs) (output ∷ []) ∙ ap (λ l. before ++ l) next) a

-- The same in a function that answers whether memory was had.
pub needed_next : {A E : Type 0} (r : Result A E) (files : Option Known) (srcdir name : List ℕ) (output : Output) (names later ts new : List (List ℕ × List ℕ)) (value : List ℕ) → name ≡ output.template
    → (read : Option (List ℕ)) × ReadsTemplate files srcdir name read × (new ≡ ts ++ entry_of name read)
    → OnOk r (later ≡ with_entry names name value)
    → OnOk r ((before : List Output) → AreLookedFor files srcdir before names ts → AreLookedFor files srcdir (before ++ output ∷ []) later new)
needed_next (Err e) files srcdir name output names later ts new value is h set = tt
needed_next (Ok x) files srcdir name output names later ts new value is h set =
    λ before a. looked_next files srcdir before output names later ts new value h.0 a (subst (λ n. ReadsTemplate files srcdir n h.0) is h.1) (h.2 ∙ ap (λ n. ts ++ entry_of n h.0) is)
    (set ∙ ap (λ n. with_entry names n value) is)

-- A template that was looked for before
pub needed_before : (files : Option Known) (srcdir name : List ℕ) (output : Output) (names ts : List (List ℕ × List ℕ)) (has : Bool) → name ≡ output.template
    → has ≡ is_some (value_of names name) → has ≡ true
    → (before : List Output) → AreLookedFor files srcdir before names ts → AreLookedFor files srcdir (before ++ output ∷ []) names ts
needed_before files srcdir name output names ts has is has_is found before a = record {
  read = record {
    sound = a.read.sound;
    complete = All-push (λ (o : Output). HasTemplate files srcdir ts o.template) before output a.read.complete
        (subst (λ n. HasTemplate files srcdir ts n) is (a.looked name (sym has_is ∙ found)));
  };
  looked = a.looked;
}

pub whole : (files : Option Known) (srcdir : List ℕ) (before outputs : List Output) (i : ℕ) (names ts : List (List ℕ × List ℕ)) → length outputs ≤ i
    → AreLookedFor files srcdir (before ++ take i outputs) names ts → AreLookedFor files srcdir (before ++ outputs) names ts
whole files srcdir before outputs i names ts past a = subst (λ l. AreLookedFor files srcdir (before ++ l) names ts) (take_all i outputs past) a

no_names : (o : Option (List ℕ)) → o ≡ None → is_some o ≡ true → ⊥
no_names None is found = cc
no_names (Some v) is found = cc

-- Two lists of outputs, one after the other, from none.
pub both : (files : Option Known) (srcdir : List ℕ) (first second : List Output) (none names later empty mid ts : List (List ℕ × List ℕ)) → none ≡ [] → empty ≡ []
    → ((before : List Output) → AreLookedFor files srcdir before none empty → AreLookedFor files srcdir (before ++ first) names mid)
    → ((before : List Output) → AreLookedFor files srcdir before names mid → AreLookedFor files srcdir (before ++ second) later ts)
    → AreTemplates files srcdir (first ++ second) ts
both files srcdir first second none names later empty mid ts nameless is one two =
    let start : AreLookedFor files srcdir [] none empty = record {
      read = subst (λ l. AreTemplates files srcdir [] l) (sym is) (none_yet files srcdir);
      looked = λ q found. absurd (no_names (value_of none q) (ap (λ l. value_of l q) nameless ∙ value_of-[] q) found);
    } in
    (two first (one [] start)).read
