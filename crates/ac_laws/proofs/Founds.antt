-- Where a call of a text is among its signs.
use Rattle.std.proofs.Common.{◌≡◌, ℕ, ◌+◌, ◌-◌, ◌<◌, ◌≤◌, Bool, true, false, ◌||◌, eqb, eq-eqb, ne_eqb, List, [], ◌∷◌, ◌++◌, length, take, reverse, refl, sym, ap, subst, ◌∙◌, append_assoc, arith}
use Rattle.std.specs.Prelude.{not}
use Rattle.std.proofs.lemmas.List.{length-append, length-take-le, reverse-append, append-nil, map-append}
use Rattle.m4quote.specs.ItemValue.{Span, ItemValue, call, bare, bare_before}
use Rattle.m4quote.specs.Spelling.{Spells, nothing, bare_text, dropped_line, bare_name, with_arguments}
use Rattle.m4quote.proofs.Insides.{front_fits}
use Rattle.m4quote.proofs.ItemsLoop.{StartsFrom, bare_before-append}
use Rattle.ac_statement.specs.declared.placement.LineStart.{LineStart}
use Rattle.ac_statement.specs.Stand.{line_start_of, no_line_start, reaches, call_reaches, is_free_after, ends_line}
use Rattle.ac_statement.specs.Texts.{is_all_blank}
use Rattle.ac_laws.specs.Signs.{Sign, call_sign, byte_sign, bytes, signs_of}
use Rattle.ac_laws.specs.Position.{line_start_after}
use Rattle.ac_laws.proofs.Opens.{ends_before, ends_after, opens, signs_open, bytes_open, opens-append, text_before}
use Rattle.ac_laws.proofs.Ends.{last_ends, name_reaches, arguments_reach}
use Rattle.ac_laws.proofs.Follows.{after_at, spelled_starts, after_signs, free_after}

-- What precedes a call at an offset leaves it free.
abbrev pub free_before : LineStart → ℕ → Bool
free_before line_start at = line_start.free || not (reaches line_start at)

-- The call at the front of these items is this sign among the signs, after those of `rev` in reverse.
pub record Found (signs rev : List Sign) (line_start : LineStart) (name : List ℕ) (args : List Span) (at : ℕ)
    (after : List ItemValue) : Type 0 where
  pub front : List Sign
  pub back : List Sign
  pub parts : signs ≡ front ++ call_sign at ∷ back
  pub left : free_before line_start at ≡ signs_open ends_before (reverse front ++ rev)
  pub right : is_free_after name args at after ≡ signs_open ends_after back

shifted : (more front rev : List Sign)
    → reverse front ++ (reverse more ++ rev) ≡ reverse (more ++ front) ++ rev
shifted more front rev =
    sym (ap (λ l. l ++ rev) (reverse-append more front)
    ∙ append_assoc (reverse front) (reverse more) rev)

-- Signs in front of those in which it was found.
later : (more signs rev : List Sign) (line_start : LineStart) (name : List ℕ) (args : List Span) (at : ℕ)
    (after : List ItemValue)
    → Found signs (reverse more ++ rev) line_start name args at after
    → Found (more ++ signs) rev line_start name args at after
later more signs rev line_start name args at after f =
    record {
      front = more ++ f.front;
      back = f.back;
      parts = ap (λ l. more ++ l) f.parts ∙ sym (append_assoc more f.front (call_sign at ∷ f.back));
      left = f.left ∙ ap (signs_open ends_before) (shifted more f.front rev);
      right = f.right;
    }

-- ---- bare text that is pending

-- What the pending text is to a call after it, or what was before it if there is none.
abbrev line_start_with : LineStart → ℕ → List ℕ → LineStart
line_start_with line_start at [] = line_start
line_start_with line_start at (b ∷ bs) = line_start_of (bare (b ∷ bs) at)

-- At this offset the text is pending, and these signs are before it, in reverse.
pub record Pending (text : List ℕ) (place at : ℕ) (line_start : LineStart) (rev : List Sign) : Type 0 where
  pub touches : place + length text ≡ at
  pub leaves : signs_open ends_before rev ≡ opens ends_before true (reverse text)
  pub past : text ≡ [] → (to : ℕ) → at ≤ to → free_before line_start to ≡ true

pub reverse-bytes : (text : List ℕ) → reverse (bytes text) ≡ bytes (reverse text)
reverse-bytes [] = refl
reverse-bytes (b ∷ bs) =
    reverse-append (byte_sign b ∷ []) (bytes bs)
    ∙ ap (λ l. l ++ byte_sign b ∷ []) (reverse-bytes bs)
    ∙ sym (map-append byte_sign (reverse bs) (b ∷ [])) ∙ ap bytes (sym (reverse-append (b ∷ []) bs))

not_empty : (a b : List ℕ) → 0 < length b → a ++ b ≡ [] → ⊥
not_empty a b some e =
    let len : length a + length b ≡ 0 =
    sym (length-append a b) ∙ ap length e in omega (arith, len, some)

more_pending : (text more : List ℕ) (place at to : ℕ) (line_start : LineStart) (rev : List Sign)
    → Pending text place at line_start rev → at + length more ≡ to → 0 < length more
    → Pending (text ++ more) place to line_start (reverse (bytes more) ++ rev)
more_pending text more place at to line_start rev h end some =
    record {
      touches = omega (arith, h.touches, end, length-append text more);
      leaves =
          ap (λ l. signs_open ends_before (l ++ rev)) (reverse-bytes more)
          ∙ bytes_open ends_before (reverse more) rev
          ∙ ap (λ x. opens ends_before x (reverse more)) h.leaves
          ∙ sym (opens-append ends_before true (reverse more) (reverse text))
          ∙ ap (opens ends_before true) (sym (reverse-append text more));
      past = λ e. absurd (not_empty text more some e);
    }

-- A call that touches the text is free as the signs say, and one after a dropped line is free.
touching : (text : List ℕ) (place at : ℕ) (line_start : LineStart) (rev : List Sign)
    → Pending text place at line_start rev
    → free_before (line_start_with line_start place text) at ≡ signs_open ends_before rev
touching [] place at line_start rev h = h.past refl at (omega arith) ∙ sym h.leaves
touching (b ∷ bs) place at line_start rev h =
    let len = h.touches in
    rw (eq-eqb (at - place) (length (b ∷ bs)) (omega (arith, len)))
    (falls (is_all_blank (b ∷ bs) || ends_line (b ∷ bs)) ∙ text_before (b ∷ bs) ∙ sym h.leaves)
  where
    falls : (x : Bool) → (x || false) ≡ x
    falls true = refl
    falls false = refl

past_line : (text : List ℕ) (place at next : ℕ) (line_start : LineStart) (rev : List Sign)
    → Pending text place at line_start rev → at < next → (to : ℕ) → next ≤ to
    → free_before (line_start_with line_start place text) to ≡ true
past_line [] place at next line_start rev h lt to le = h.past refl to (omega (arith, lt, le))
past_line (b ∷ bs) place at next line_start rev h lt to le =
    let len = h.touches in
    rw (ne_eqb (to - place) (length (b ∷ bs)) (λ e. omega (arith, e, len, lt, le)))
    (holds (is_all_blank (b ∷ bs) || ends_line (b ∷ bs)))
  where
    holds : (x : Bool) → (x || true) ≡ true
    holds true = refl
    holds false = refl

-- ---- the items before a call

nothing_before : (before : List ItemValue) (i : ItemValue) (after : List ItemValue) → [] ≡ before ++ i ∷ after
    → ⊥
nothing_before [] i after e = absurd cc
nothing_before (x ∷ before) i after e = absurd cc

-- The items after the pending text.
record Peeled (text : List ℕ) (place : ℕ) (line_start : LineStart) (before items : List ItemValue) (i : ItemValue)
    (after : List ItemValue) : Type 0 where
  pub others : List ItemValue
  pub parts : items ≡ others ++ i ∷ after
  pub same : line_start_after (line_start_with line_start place text) others ≡ line_start_after line_start before

peeled : (text : List ℕ) (place : ℕ) (line_start : LineStart) (before items : List ItemValue) (name : List ℕ)
    (args : List Span) (at : ℕ) (after : List ItemValue)
    → bare_before place text [] ++ items ≡ before ++ call name args at ∷ after
    → Peeled text place line_start before items (call name args at) after
peeled [] place line_start before items name args at after e =
    record { others = before; parts = e; same = refl }
peeled (b ∷ bs) place line_start [] items name args at after e = absurd cc
peeled (b ∷ bs) place line_start (x ∷ before) items name args at after e =
    let first : bare (b ∷ bs) place ≡ x = cc in
    record { others = before; parts = cc; same = ap (λ i. line_start_after (line_start_of i) before) first }

apart : (text : List ℕ) (place to : ℕ) (items : List ItemValue) → StartsFrom to items
    → place + length text < to → bare_before place text items ≡ bare_before place text [] ++ items
apart [] place to items s lt = refl
apart (b ∷ bs) place to [] s lt = refl
apart (b ∷ bs) place to (call name args at ∷ items) s lt = refl
apart (b ∷ bs) place to (bare text at ∷ items) s lt =
    rw (ne_eqb at (place + length (b ∷ bs)) (λ e. omega (arith, e, s, lt))) refl

apart_call : (text : List ℕ) (place : ℕ) (name : List ℕ) (args : List Span) (at : ℕ)
    (items : List ItemValue)
    → bare_before place text
    (call name args at ∷ items) ≡ bare_before place text [] ++ call name args at ∷ items
apart_call [] place name args at items = refl
apart_call (b ∷ bs) place name args at items = refl

-- ---- a call

module _ (signs rev : List Sign) (at end : ℕ) (name : List ℕ) (args : List Span)
    (items : List ItemValue) (reach : (to : ℕ) → end ≤ to → call_reaches name args at to ≡ eqb to end)
    (start : StartsFrom end items)
    (follows : signs_open ends_after signs ≡ after_at end items) where
  this : (line_start : LineStart) (name' : List ℕ) (args' : List Span) (at' : ℕ) (after : List ItemValue)
      → free_before line_start at ≡ signs_open ends_before rev
      → call name args at ∷ items ≡ call name' args' at' ∷ after
      → Found (call_sign at ∷ signs) rev line_start name' args' at' after
  this line_start name' args' at' after left e =
      let names : name ≡ name' = cc in
      let spans : args ≡ args' = cc in
      let places : at ≡ at' = cc in
      let rest : items ≡ after = cc in
      record {
        front = [];
        back = signs;
        parts = ap (λ k. call_sign k ∷ signs) places;
        left = subst (λ k. free_before line_start k ≡ signs_open ends_before rev) places left;
        right =
            subst (λ n. is_free_after n args' at' after ≡ signs_open ends_after signs) names
            (subst (λ a. is_free_after name a at' after ≡ signs_open ends_after signs) spans
            (subst (λ k. is_free_after name args k after ≡ signs_open ends_after signs) places
            (subst (λ l. is_free_after name args at l ≡ signs_open ends_after signs) rest
            (free_after name args at end items reach start ∙ sym follows))));
      }

  at_call : (line_start : LineStart) (others : List ItemValue) (name' : List ℕ) (args' : List Span) (at' : ℕ)
      (after : List ItemValue)
      → free_before line_start at ≡ signs_open ends_before rev
      → ((more : List ItemValue) → items ≡ more ++ call name' args' at' ∷ after
      → Found signs (call_sign at ∷ rev) (line_start_after no_line_start more) name' args' at' after)
      → call name args at ∷ items ≡ others ++ call name' args' at' ∷ after
      → Found (call_sign at ∷ signs) rev (line_start_after line_start others) name' args' at' after
  at_call line_start [] name' args' at' after left deeper e = this line_start name' args' at' after left e
  at_call line_start (x ∷ others) name' args' at' after left deeper e =
      let first : call name args at ≡ x = cc in
      subst
      (λ i. Found (call_sign at ∷ signs) rev
      (line_start_after (line_start_of i) others) name' args' at' after) first
      (later (call_sign at ∷ []) signs rev (line_start_after no_line_start others) name' args' at' after
      (deeper others cc))

-- After a call nothing is pending.
after_call : (at : ℕ) (at' : ℕ) (rev : List Sign) → Pending [] at at no_line_start (call_sign at' ∷ rev)
after_call at at' rev = record { touches = omega arith; leaves = refl; past = λ e to le. refl }

-- After a dropped line nothing is pending.
after_line : (text : List ℕ) (place at next : ℕ) (line_start : LineStart) (rev : List Sign)
    → Pending text place at line_start rev → at < next
    → Pending [] next next (line_start_with line_start place text) (byte_sign 10 ∷ rev)
after_line text place at next line_start rev h lt =
    record {
      touches = omega arith;
      leaves = refl;
      past = λ e. past_line text place at next line_start rev h lt;
    }

pub find : {at : ℕ} {text : List ℕ} {items : List ItemValue} → (s : Spells at text items)
    → (pending : List ℕ) (place : ℕ) (line_start : LineStart) (rev : List Sign)
    → Pending pending place at line_start rev
    → (before : List ItemValue) (name : List ℕ) (args : List Span) (to : ℕ) (after : List ItemValue)
    → bare_before place pending items ≡ before ++ call name args to ∷ after
    → Found (signs_of s) rev (line_start_after line_start before) name args to after
find nothing pending place line_start rev h before name args to after e =
    let p =
    peeled pending place line_start before [] name args to after
    (append-nil (bare_before place pending []) ∙ e) in
    absurd (nothing_before p.others (call name args to) after p.parts)
find (bare_text {at} {n} {kind} {text} {items} front is_bare rest) pending place line_start rev h before
    name args to after e =
    let fits = front_fits front in
    let run = take n text in
    let len : length run ≡ n = length-take-le n text fits.1 in
    let joined : bare_before place pending (bare_before at run items) ≡ bare_before place
    (pending ++ run) items =
    ap (λ k. bare_before place pending (bare_before k run items)) (sym h.touches)
    ∙ bare_before-append place pending run items in
    later (bytes run) (signs_of rest) rev (line_start_after line_start before) name args to after
    (find rest (pending ++ run) place line_start (reverse (bytes run) ++ rev)
    (more_pending pending run place at (at + n) line_start rev h (omega (arith, len))
    (omega (arith, len, fits.0)))
    before name args to after (sym joined ∙ e))
find (dropped_line {at} {n} {text} {items} front rest) pending place line_start rev h before name args
    to after e =
    let lt : at < at + n = omega (arith, (front_fits front).0) in
    let touches = h.touches in
    let p =
    peeled pending place line_start before items name args to after
    (sym (apart pending place (at + n) items (spelled_starts rest) (omega (arith, touches, lt)))
    ∙ e) in
    later (byte_sign 10 ∷ []) (signs_of rest) rev (line_start_after line_start before) name args to after
    (subst (λ g. Found (signs_of rest) (byte_sign 10 ∷ rev) g name args to after) p.same
    (find rest [] (at + n) (line_start_with line_start place pending) (byte_sign 10 ∷ rev)
    (after_line pending place at (at + n) line_start rev h lt) p.others name args to after p.parts))
find (bare_name {at} {n} {text} {items} front alone rest) pending place line_start rev h before name args
    to after e =
    let fits = front_fits front in
    let len : length (take n text) ≡ n = length-take-le n text fits.1 in
    let p =
    peeled pending place line_start before (call (take n text) [] at ∷ items) name args to after
    (sym (apart_call pending place (take n text) [] at items) ∙ e) in
    subst (λ g. Found (call_sign at ∷ signs_of rest) rev g name args to after) p.same
    (at_call (signs_of rest) rev at (at + n) (take n text) [] items
    (λ k le. name_reaches (take n text) at n k len le) (spelled_starts rest) (after_signs rest)
    (line_start_with line_start place pending) p.others name args to after
    (touching pending place at line_start rev h)
    (λ more parts. find rest [] (at + n) no_line_start (call_sign at ∷ rev)
    (after_call (at + n) at rev) more name args to after parts) p.parts)
find (with_arguments {at} {n} {m} {text} {inside} {args = given} {items} front paren are rest)
    pending place line_start rev h before name args to after e =
    let end = at + n + 1 + m in
    let ends = last_ends are in
    let p =
    peeled pending place line_start before (call (take n text) given at ∷ items) name args to after
    (sym (apart_call pending place (take n text) given at items) ∙ e) in
    subst (λ g. Found (call_sign at ∷ signs_of rest) rev g name args to after) p.same
    (at_call (signs_of rest) rev at end (take n text) given items
    (λ k le. arguments_reach (take n text) given at end k ends.0 ends.1 le) (spelled_starts rest)
    (after_signs rest)
    (line_start_with line_start place pending) p.others name args to after
    (touching pending place at line_start rev h)
    (λ more parts. find rest [] end no_line_start (call_sign at ∷ rev)
    (after_call end at rev) more name args to after parts) p.parts)
