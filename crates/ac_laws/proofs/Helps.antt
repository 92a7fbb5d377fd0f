-- The help that an argument gives, and the program that one gives.
use Rattle.std.proofs.Common.{◌≡◌, ◌↔◌, ◌⊎◌, inl, inr, ◌==◌, ◌&&◌, ◌||◌, Bool, true, false, cond, ℕ, suc, List, [], ◌∷◌, ◌++◌, length, codes, nat_eq, Option, Some, None, Result, Ok, Err, refl, sym, ap, subst, ◌∙◌, drop, arith}
use Rattle.std.specs.List.{AllByRecursion, starts_with}
use Rattle.std.specs.Str.{bytes_eq}
use Rattle.std.proofs.lemmas.Bool.{and_parts}
use Rattle.std.proofs.lemmas.Bool.Decides.{Decides-eqb}
use Rattle.std.proofs.lemmas.Slice.Eq.{bytes_eq-Decides, starts_is}
use Rattle.m4quote.specs.declared.fault.QuoteFault.{QuoteFault}
use Rattle.m4quote.specs.ItemValue.{Span, ItemValue, call, bare}
use Rattle.m4quote.specs.Scan.{used}
use Rattle.m4quote.specs.Used.{IsUsed}
use Rattle.m4quote.proofs.Laws.{used_is_used}
use Rattle.ac_statement.specs.declared.fault.ParseFault.{ParseFault}
use Rattle.ac_statement.specs.Inside.{call_items, are_blank}
use Rattle.ac_statement.specs.Reading.{◌>>=◌, quoted_at, wants}
use Rattle.ac_statement.specs.Texts.{arg_at}
use Rattle.ac_statement.proofs.Binds.{bind_ok, ok_is, wants_ok}
use Rattle.ac_tree.specs.declared.help.Help.{Help}
use Rattle.ac_tree.specs.declared.help.Help.TheVariants.{Columns, Text}
use Rattle.ac_tree.specs.declared.program.Program.{Program}
use Rattle.ac_args.specs.Arguments.{text}
use Rattle.ac_args.specs.Help.{Called, sole_call, has_call, has_part, help_by, help_among, unread_help, own_text, help, help_string_name, help_string as columns_of}
use Rattle.ac_macros.specs.Tries.{called, lang_program, lang_source, tried_program}
use Rattle.ac_laws.specs.Holding.{HoldsItems, IsCallAlone, IsNoCallOf, HasPart, help_string, IsHelp, columns, without_call, without_items, IsProgram, lang_program_alone, lang_source_alone, HelpIsGiven, UnreadHelpIsRefused, ProgramIsGiven}
use Rattle.ac_laws.proofs.Holdings.{items_are_held, items_are_refused, calls_are_alone}

true_is_false : true ≡ false → ⊥
true_is_false e = absurd cc

-- ---- used texts

used_by : (at : ℕ) (r : Result (List ℕ) QuoteFault) (t : List ℕ) → quoted_at at r ≡ Ok t → r ≡ Ok t
used_by at (Ok u) t e = let same : u ≡ t = cc in ap (λ z. Ok z) same
used_by at (Err f) t e = absurd cc

is_used : (s : Span) (t : List ℕ) → text s ≡ Ok t → IsUsed s.text t
is_used s t e = (used_is_used s.text t).0 (used_by s.at (used s.text) t e)

text_is : (s : Span) (t : List ℕ) → IsUsed s.text t → text s ≡ Ok t
text_is s t h = ap (quoted_at s.at) ((used_is_used s.text t).1 h)

own_is : (arg : Span) (given : Help) → own_text arg ≡ Ok given → (t : List ℕ) × IsUsed arg.text t × (Text t ≡ given)
own_is arg given e = let b = bind_ok (text arg) (λ t. Ok (Text t)) given e in (b.0, is_used arg b.0 b.1, ok_is (Text b.0) given b.2)

gives_own : (arg : Span) (t : List ℕ) → IsUsed arg.text t → own_text arg ≡ Ok (Text t)
gives_own arg t h = ap (λ r. r >>= λ t. Ok (Text t)) (text_is arg t h)

-- ---- a part of a text

starts : (xs part : List ℕ) (b : Bool) → starts_with nat_eq xs part ≡ b → (b ≡ true → xs ≡ part ++ drop (length part) xs) × ((rest : List ℕ) → xs ≡ part ++ rest → b ≡ true)
starts xs part b e = starts_is Decides-eqb xs part b (sym e)

part_found : (part xs : List ℕ) → has_part part xs ≡ true → HasPart part xs
unfolding has_part
part_found part [] h = absurd cc
part_found part (x ∷ xs) h = by (starts_with nat_eq (x ∷ xs) part) refl h (part_found part xs) where
  by : (b : Bool) → starts_with nat_eq (x ∷ xs) part ≡ b → (b || has_part part xs) ≡ true → (has_part part xs ≡ true → HasPart part xs) → HasPart part (x ∷ xs)
  by true e h rec = record { before = []; after = drop (length part) (x ∷ xs); is = (starts (x ∷ xs) part true e).0 refl }
  by false e h rec = let rest = rec h in record { before = x ∷ rest.before; after = rest.after; is = ap (λ l. x ∷ l) rest.is }

or_left : (a b : Bool) → a ≡ true → (a || b) ≡ true
or_left true b e = refl
or_left false b e = absurd cc

or_right : (a b : Bool) → b ≡ true → (a || b) ≡ true
or_right true b e = refl
or_right false b e = e

finds_part : (x : ℕ) (part before after : List ℕ) → has_part (x ∷ part) (before ++ ((x ∷ part) ++ after)) ≡ true
unfolding has_part
finds_part x part [] after = or_left _ _ ((starts ((x ∷ part) ++ after) (x ∷ part) _ refl).1 after refl)
finds_part x part (b ∷ before) after = or_right _ _ (finds_part x part before after)

has_help_string : (xs : List ℕ) → HasPart help_string xs → has_part help_string_name xs ≡ true
has_help_string xs h = ap (has_part help_string_name) h.is ∙ finds_part 65 (codes "S_HELP_STRING") h.before h.after

-- ---- no call among the items

no_call : (name : List ℕ) (items : List ItemValue) → has_call name items ≡ false → AllByRecursion (IsNoCallOf name) items
no_call name [] h = tt
no_call name (bare t at ∷ items) h = (tt, no_call name items h)
no_call name (call other args at ∷ items) h = by (bytes_eq other name) refl h (no_call name items) where
  by : (b : Bool) → bytes_eq other name ≡ b → (b || has_call name items) ≡ false → (has_call name items ≡ false → AllByRecursion (IsNoCallOf name) items)
      → (other ≡ name → ⊥) × AllByRecursion (IsNoCallOf name) items
  by true e h rec = absurd cc
  by false e h rec = (λ is. true_is_false (sym ((bytes_eq-Decides other name).1 is) ∙ e), rec h)

calls_none : (name : List ℕ) (items : List ItemValue) → AllByRecursion (IsNoCallOf name) items → has_call name items ≡ false
calls_none name [] h = refl
calls_none name (bare t at ∷ items) h = calls_none name items h.1
calls_none name (call other args at ∷ items) h = by (bytes_eq other name) refl (calls_none name items h.1) where
  by : (b : Bool) → bytes_eq other name ≡ b → has_call name items ≡ false → (b || has_call name items) ≡ false
  by true e rec = absurd (h.0 ((bytes_eq-Decides other name).0 e))
  by false e rec = rec

call_there : (name : List ℕ) (before after : List ItemValue) (c : Called) → has_call name (before ++ call name c.args c.at ∷ after) ≡ true
call_there name [] after c = or_left _ _ ((bytes_eq-Decides name name).1 refl)
call_there name (bare t at ∷ before) after c = call_there name before after c
call_there name (call other args at ∷ before) after c = or_right _ _ (call_there name before after c)

none_alone : (name : List ℕ) (items : List ItemValue) → has_call name items ≡ false → sole_call name items ≡ None
none_alone name items h = by (sole_call name items) refl where
  by : (o : Option Called) → sole_call name items ≡ o → o ≡ None
  by None e = refl
  by (Some c) e =
      let alone = (calls_are_alone name items c).0 e in
      absurd (true_is_false (sym (call_there name alone.before alone.after c) ∙ ap (has_call name) (sym alone.parts) ∙ h))

-- ---- help

two : (args : List Span) → (length args == 2) ≡ true → (left : Span) × (right : Span) × (args ≡ left ∷ right ∷ [])
two [] e = absurd cc
two (a ∷ []) e = absurd cc
two (a ∷ b ∷ []) e = (a, b, refl)
two (a ∷ b ∷ c ∷ more) e = absurd (let n : suc (suc (suc (length more))) ≡ 2 = (Decides-eqb (suc (suc (suc (length more)))) 2).0 e in omega (arith, n))

module _ (arg : Span) where
  entry : (items : List ItemValue) (c : Called) (given : Help) → HoldsItems arg items → IsCallAlone help_string items c → columns_of c.args c.at ≡ Ok given → IsHelp arg given
  unfolding columns_of
  entry items c given holds alone e =
      let w = bind_ok (wants (length c.args == 2) _) _ given e in
      let pair = two c.args (wants_ok (length c.args == 2) _ w.0 w.1) in
      by pair.0 pair.1 pair.2 w.2 where
        by : (l r : Span) → c.args ≡ l ∷ r ∷ [] → (text (arg_at c.args 0) >>= λ left. text (arg_at c.args 1) >>= λ right. Ok (Columns left right)) ≡ Ok given → IsHelp arg given
        by l r is h =
            let both : (text l >>= λ left. text r >>= λ right. Ok (Columns left right)) ≡ Ok given =
            ap (λ args. text (arg_at args 0) >>= λ left. text (arg_at args 1) >>= λ right. Ok (Columns left right)) (sym is) ∙ h in
            let first = bind_ok (text l) (λ left. text r >>= λ right. Ok (Columns left right)) given both in
            let second = bind_ok (text r) (λ right. Ok (Columns first.0 right)) given first.2 in
            subst (IsHelp arg) (ok_is (Columns first.0 second.0) given second.2)
            (columns holds (subst (λ args. IsCallAlone help_string items (record { args = args; at = c.at })) is alone) (is_used l first.0 first.1) (is_used r second.0 second.1))

  gives : (given : Help) → help arg ≡ Ok given → IsHelp arg given
  unfolding help
  gives given e = by (call_items arg) refl e where
    line : (items : List ItemValue) → HoldsItems arg items → (b : Bool) → has_call help_string_name items ≡ b → help_by arg b None ≡ Ok given → IsHelp arg given
    line items holds true is h = absurd cc
    line items holds false is h = let own = own_is arg given h in subst (IsHelp arg) own.2 (without_call holds (no_call help_string_name items is) own.1)

    by_call : (items : List ItemValue) → HoldsItems arg items → (o : Option Called) → sole_call help_string_name items ≡ o → help_by arg (has_call help_string_name items) o ≡ Ok given → IsHelp arg given
    by_call items holds (Some c) is h = entry items c given holds ((calls_are_alone help_string_name items c).0 is) h
    by_call items holds None is h = line items holds (has_call help_string_name items) refl h

    unread : (f : ParseFault) → call_items arg ≡ Err f → (b : Bool) → has_part help_string_name arg.text ≡ b → unread_help arg b f ≡ Ok given → IsHelp arg given
    unread f is true part h = absurd cc
    unread f is false part h =
        let own = own_is arg given h in
        subst (IsHelp arg) own.2
        (without_items (λ items holds. let clash : Err f ≡ Ok items = sym is ∙ (items_are_held arg items).1 holds in absurd cc)
        (λ there. true_is_false (sym (has_help_string arg.text there) ∙ part)) own.1)

    by : (r : Result (List ItemValue) ParseFault) → call_items arg ≡ r → help_among arg r ≡ Ok given → IsHelp arg given
    by (Ok items) is h = by_call items ((items_are_held arg items).0 is) (sole_call help_string_name items) refl h
    by (Err f) is h = unread f is (has_part help_string_name arg.text) refl h

  given_by : (given : Help) → IsHelp arg given → help arg ≡ Ok given
  unfolding help columns_of
  given_by given (columns {items = items} {at = at} {left = l} {right = r} {left_text = lt} {right_text = rt} holds alone left right) =
      ap (help_among arg) ((items_are_held arg items).1 holds)
      ∙ ap (help_by arg (has_call help_string_name items)) ((calls_are_alone help_string_name items (record { args = l ∷ r ∷ []; at = at })).1 alone)
      ∙ ap (λ t. t >>= λ left. text r >>= λ right. Ok (Columns left right)) (text_is l lt left) ∙ ap (λ t. t >>= λ right. Ok (Columns lt right)) (text_is r rt right)
  given_by given (without_call {items = items} {text = t} holds none own) =
      let no = calls_none help_string_name items none in
      ap (help_among arg) ((items_are_held arg items).1 holds) ∙ ap (help_by arg (has_call help_string_name items)) (none_alone help_string_name items no)
      ∙ ap (λ b. help_by arg b None) no ∙ gives_own arg t own
  given_by given (without_items {text = t} no_items no_part own) = by (call_items arg) refl where
    part : (b : Bool) → has_part help_string_name arg.text ≡ b → b ≡ false
    part false e = refl
    part true e = absurd (no_part (part_found help_string_name arg.text e))

    by : (r : Result (List ItemValue) ParseFault) → call_items arg ≡ r → help arg ≡ Ok (Text t)
    by (Ok items) is = absurd (no_items items ((items_are_held arg items).0 is))
    by (Err f) is = ap (help_among arg) is ∙ ap (λ b. unread_help arg b f) (part (has_part help_string_name arg.text) refl) ∙ gives_own arg t own

pub help_is_given : HelpIsGiven
help_is_given arg given = (gives arg given, given_by arg given)

pub unread_help_is_refused : UnreadHelpIsRefused
unfolding help
unread_help_is_refused arg fault h part =
    ap (help_among arg) ((items_are_refused arg fault).1 h) ∙ ap (λ b. unread_help arg b fault) (has_help_string arg.text part)

-- ---- the program of a check

-- The name of the first call.
first_name : List ItemValue → List ℕ
first_name [] = []
first_name (call name args at ∷ items) = name
first_name (bare t at ∷ items) = first_name items

named : (name : List ℕ) (c : Called) (before after : List ItemValue) → are_blank before ≡ true → first_name (before ++ call name c.args c.at ∷ after) ≡ name
unfolding first_name
named name c [] after e = refl
named name c (call other args at ∷ before) after e = absurd cc
named name c (bare t at ∷ before) after e = named name c before after (and_parts _ (are_blank before) e).1

name_of : (name : List ℕ) (c : Called) (items : List ItemValue) → IsCallAlone name items c → first_name items ≡ name
name_of name c items h = ap first_name h.parts ∙ named name c h.before h.after h.blank_before

-- No items are a call of each of the two names alone.
one_name : (items : List ItemValue) (c d : Called) → IsCallAlone (codes "AC_LANG_PROGRAM") items c → IsCallAlone (codes "AC_LANG_SOURCE") items d → ⊥
one_name items c d h k =
    let same : codes "AC_LANG_PROGRAM" ≡ codes "AC_LANG_SOURCE" = sym (name_of (codes "AC_LANG_PROGRAM") c items h) ∙ name_of (codes "AC_LANG_SOURCE") d items k in
    absurd cc

module _ (arg : Span) where
  program_by : (program : Program) → tried_program arg ≡ Ok program → IsProgram arg program
  unfolding tried_program
  program_by program e =
      let b = bind_ok (call_items arg) (λ items. called arg.at (sole_call (codes "AC_LANG_PROGRAM") items) (sole_call (codes "AC_LANG_SOURCE") items)) program e in
      by b.0 ((items_are_held arg b.0).0 b.1) (sole_call (codes "AC_LANG_PROGRAM") b.0) refl (sole_call (codes "AC_LANG_SOURCE") b.0) refl b.2 where
        by : (items : List ItemValue) → HoldsItems arg items → (o : Option Called) → sole_call (codes "AC_LANG_PROGRAM") items ≡ o → (p : Option Called) → sole_call (codes "AC_LANG_SOURCE") items ≡ p
            → called arg.at o p ≡ Ok program → IsProgram arg program
        by items holds (Some c) is p other h = lang_program_alone holds ((calls_are_alone (codes "AC_LANG_PROGRAM") items c).0 is) h
        by items holds None is (Some c) other h = lang_source_alone holds ((calls_are_alone (codes "AC_LANG_SOURCE") items c).0 other) h
        by items holds None is None other h = absurd cc

  by_program : (program : Program) → IsProgram arg program → tried_program arg ≡ Ok program
  unfolding tried_program
  by_program program (lang_program_alone {items = items} {called = c} holds alone e) =
      ap (λ r. r >>= λ items. called arg.at (sole_call (codes "AC_LANG_PROGRAM") items) (sole_call (codes "AC_LANG_SOURCE") items)) ((items_are_held arg items).1 holds)
      ∙ ap (λ o. called arg.at o (sole_call (codes "AC_LANG_SOURCE") items)) ((calls_are_alone (codes "AC_LANG_PROGRAM") items c).1 alone) ∙ e
  by_program program (lang_source_alone {items = items} {called = c} holds alone e) =
      ap (λ r. r >>= λ items. called arg.at (sole_call (codes "AC_LANG_PROGRAM") items) (sole_call (codes "AC_LANG_SOURCE") items)) ((items_are_held arg items).1 holds)
      ∙ ap (λ o. called arg.at o (sole_call (codes "AC_LANG_SOURCE") items)) (by (sole_call (codes "AC_LANG_PROGRAM") items) refl)
      ∙ ap (called arg.at None) ((calls_are_alone (codes "AC_LANG_SOURCE") items c).1 alone) ∙ e where
        by : (o : Option Called) → sole_call (codes "AC_LANG_PROGRAM") items ≡ o → o ≡ None
        by None is = refl
        by (Some other) is = absurd (one_name items other c ((calls_are_alone (codes "AC_LANG_PROGRAM") items other).0 is) alone)

pub program_is_given : ProgramIsGiven
program_is_given arg program = (program_by arg program, by_program arg program)
