-- An error that is reported is one, and everything before it is right.
use Rattle.std.proofs.Common.{◌≡◌, ℕ, zero, suc, List, [], ◌∷◌, drop, Option, Some, None, Result, Ok, Err, refl, sym, subst, inl, inr}
use Rattle.m4quote.specs.ItemValue.{Span, ItemValue, call, bare}
use Rattle.m4quote.specs.declared.fault.QuoteFault.{QuoteFault}
use Rattle.ac_statement.specs.declared.fault.ParseFault.{ParseFault}
use Rattle.ac_statement.specs.declared.fault.ParseFault.TheVariants.{UnknownMacro}
use Rattle.ac_statement.specs.declared.placement.LineStart.{LineStart}
use Rattle.ac_statement.specs.Reading.{quoted, quote_fault}
use Rattle.ac_statement.specs.Stand.{line_start_of, no_line_start}
use Rattle.ac_statement.proofs.Binds.{bind_err, wants_err, err_is}
use Rattle.ac_args.specs.Arguments.{cache_name, is_given}
use Rattle.ac_args.specs.Shell.{here_text}
use Rattle.ac_statement.specs.Texts.{arg_at}
use Rattle.ac_macros.specs.declared.macros.ArgumentMacro.{ArgumentMacro}
use Rattle.ac_macros.specs.declared.macros.ChoiceMacro.{ChoiceMacro}
use Rattle.ac_macros.specs.declared.macros.Macro.{Macro}
use Rattle.ac_macros.specs.declared.macros.Macro.TheVariants.{Plain, Choice as A_choice, Question as A_question, Check as A_check}
use Rattle.ac_macros.specs.declared.macros.Named.{Named}
use Rattle.ac_macros.specs.declared.macros.Named.TheVariants.{Statement, Argument}
use Rattle.ac_macros.specs.declared.macros.QuestionMacro.{QuestionMacro}
use Rattle.ac_macros.specs.Checks.{completed_of}
use Rattle.ac_macros.specs.Placement.{as_statement, bare_fault}
use Rattle.ac_tree.specs.declared.tree.When.{When}
use Rattle.ac_tree.specs.declared.tree.When.TheVariants.{Yes, No, Always}
use Rattle.ac_tree.specs.declared.declarations.Declarations as declarations
use Rattle.ac_tree.specs.declared.declarations.Stage.{Stage}
use Rattle.ac_macros.specs.ListKind.{ListKind, Commands, of_case}
use Rattle.ac_macros.specs.Table.{row_named}
use Rattle.ac_macros.specs.declared.table.Row.{Row}
use Rattle.m4quote.proofs.Laws.{outcome_is_spelling, outcome_is_fault}
use Rattle.m4quote.specs.Scan.{outcome}
use Rattle.ac_tree.specs.Lists.{after, after_all, after_cases}
use Rattle.ac_tree.specs.Script.{Script, Cases}
use Rattle.acparse.specs.Breaks.{WithinBreaks, MayNotStand, unknown, other_arguments, in_arguments_alone, not_here, in_text, not_held, CasesBreak, in_condition, in_body, after_case, in_default, ActionBreaks, in_action, ItemBreaks, other_text, may_not_stand, argument, in_subject, in_cases, in_question, in_yes, in_no, in_includes, in_message, in_name, in_commands, Breaks, here, following, TextBreaks, no_items, in_items, IsBroken}
use Rattle.acparse.specs.Asked.{asked_with}
use Rattle.acparse.specs.Profile.{Bodies, body_of, items_of, item_of, call_of, checked, known, case_args, case_if, cases_in, choice_of, action_in, action_args, asked_of, check_of}
use Rattle.acparse.specs.Statements.{Within, MayStand, IsBody}
use Rattle.acparse.proofs.Found.{Reads, known_some, is_of_statement, may_stand, action_found, item_found, body_found, quoted_ok}

-- Each error of a statement argument that is reported is one.
abbrev pub Faults : Bodies → WithinBreaks → Type 0
Faults bodies Broken = (c : declarations.Declarations) (arg : Span) (f : ParseFault) → bodies c arg ≡ Err f → Broken c arg f

pub quoted_err : {A : Type 0} (r : Result A QuoteFault) (f : ParseFault) → quoted r ≡ Err f → (q : QuoteFault) × (r ≡ Err q) × (f ≡ quote_fault q)
quoted_err (Ok y) f e = absurd cc
quoted_err {A = A} (Err q) f e = (q, refl, sym (err_is {A = A} _ f e))

known_none : (at : ℕ) (o : Option Row) (f : ParseFault) → known at o ≡ Err f → (o ≡ None) × (f ≡ UnknownMacro at)
known_none at None f e = (refl, sym (err_is {A = Row} _ f e))
known_none at (Some m) f e = absurd cc

is_of_arguments : (stage : Stage) (at : ℕ) (named : Named) (f : ParseFault) → as_statement stage at named ≡ Err f → (m : ArgumentMacro) × (named ≡ Argument m) × (f ≡ bare_fault stage at)
is_of_arguments stage at (Statement m) f e = absurd cc
is_of_arguments stage at (Argument m) f e = (m, refl, sym (err_is {A = Macro} _ f e))

may_not_stand_by : (list_kind : ListKind) (stage : Stage) (line_start : LineStart) (name : List ℕ) (args : List Span) (at : ℕ) (next : List ItemValue) (f : ParseFault)
    → checked list_kind stage line_start name args at next ≡ Err f → MayNotStand list_kind stage line_start name args at next f
unfolding checked
may_not_stand_by list_kind stage line_start name args at next f e =
    let P : ParseFault → Type 0 = MayNotStand list_kind stage line_start name args at next in
    elim (bind_err _ _ _ e) [
      | inl h ↦ let k = known_none at (row_named name) f h in subst P (sym k.1) (unknown k.0)
      | inr m ↦ elim (bind_err _ _ _ m.2) [
        | inl h ↦ let n = wants_err _ _ _ h in subst P (sym n.1) (other_arguments (known_some _ _ _ m.1) n.0)
        | inr n ↦ elim (bind_err _ _ _ n.2) [
          | inl h ↦ let a = is_of_arguments stage at m.0.named f h in subst P (sym a.2) (in_arguments_alone (known_some _ _ _ m.1) a.1)
          | inr s ↦
              let is : row_named name ≡ Some m.0 = known_some _ _ _ m.1 in
              let named : m.0.named ≡ Statement s.0 = is_of_statement stage at m.0.named s.0 s.1 in
              elim (bind_err _ _ _ s.2) [
                | inl h ↦ not_here is named h
                | inr p ↦ elim (bind_err _ _ _ p.2) [
                  | inl h ↦ let w = wants_err _ _ _ h in subst P (sym w.1) (in_text is named w.0)
                  | inr q ↦ elim (bind_err _ _ _ q.2) [
                    | inl h ↦ not_held is named h
                    | inr x ↦ absurd (no_macro s.0 x.2)
                  ]
                ]
              ]
        ]
      ]
    ]
  where
    no_macro : (m : Macro) → (let r : Result Macro ParseFault = Ok m in r) ≡ Err f → ⊥
    no_macro m e = cc

no_end : (s : Script) (f : ParseFault) → (let r : Result Script ParseFault = Ok s in r) ≡ Err f → ⊥
no_end s f e = cc

no_cases_end : (s : Cases) (f : ParseFault) → (let r : Result Cases ParseFault = Ok s in r) ≡ Err f → ⊥
no_cases_end s f e = cc

cases_break : (bodies : Bodies) (Inside : Within) (Broken : WithinBreaks) (ok : Reads bodies Inside) (bad : Faults bodies Broken) (m : ChoiceMacro) (args : List Span) (c : declarations.Declarations) (f : ParseFault)
    → cases_in bodies m c args ≡ Err f → CasesBreak Inside Broken m c args f
unfolding cases_in
cases_break bodies Inside Broken ok bad m [] c f e = absurd (no_cases_end _ f e)
cases_break bodies Inside Broken ok bad m (b ∷ []) c f e =
    elim (bind_err (bodies c b) (λ body. Ok (case_if Always (is_given b) body)) _ e) [
      | inl h ↦ in_default (bad c b f h)
      | inr x ↦ absurd (no_cases_end _ f x.2)
    ]
cases_break bodies Inside Broken ok bad m (w ∷ a ∷ more) c f e =
    elim (bind_err _ _ _ e) [
      | inl h ↦ in_condition h
      | inr x ↦ elim (bind_err _ _ _ x.2) [
        | inl h ↦ in_body x.1 (bad c a f h)
        | inr y ↦ elim (bind_err _ _ _ y.2) [
          | inl h ↦ after_case x.1 (ok c a y.0 y.1) (cases_break bodies Inside Broken ok bad m more (after_all c y.0) f h)
          | inr z ↦ absurd (no_cases_end _ f z.2)
        ]
      ]
    ]

action_breaks : (bodies : Bodies) (Broken : WithinBreaks) (bad : Faults bodies Broken) (when : When) (args : List Span) (c : declarations.Declarations) (f : ParseFault) → action_in bodies when c args ≡ Err f → ActionBreaks Broken c args f
unfolding action_in
action_breaks bodies Broken bad when [] c f e = absurd (no_cases_end _ f e)
action_breaks bodies Broken bad when (a ∷ more) c f e =
    elim (bind_err (bodies c a) (λ body. Ok (case_if when (is_given a) body)) _ e) [
      | inl h ↦ in_action (bad c a f h)
      | inr x ↦ absurd (no_cases_end _ f x.2)
    ]

item_breaks : (list_kind : ListKind) (bodies : ListKind → Bodies) (Inside : ListKind → Within) (Broken : ListKind → WithinBreaks) (ok : (x : ListKind) → Reads (bodies x) (Inside x)) (bad : (x : ListKind) → Faults (bodies x) (Broken x)) (c : declarations.Declarations) (line_start : LineStart) (item : ItemValue) (next : List ItemValue) (f : ParseFault)
    → item_of list_kind bodies c line_start item next ≡ Err f → ItemBreaks list_kind Inside Broken c line_start item next f
unfolding choice_of asked_of asked_with check_of
item_breaks list_kind bodies Inside Broken ok bad c line_start (bare text at) next f e = other_text e
item_breaks list_kind bodies Inside Broken ok bad c line_start (call name args at) next f e =
    elim (bind_err _ _ _ e) [
      | inl h ↦ may_not_stand (may_not_stand_by list_kind c.stage line_start name args at next f h)
      | inr m ↦ call_breaks m.0 (may_stand list_kind c.stage line_start name args at next m.0 m.1) m.2
    ]
  where
    choice_breaks : (m : ChoiceMacro) → MayStand list_kind c.stage line_start name args at next (A_choice m) → choice_of (bodies (of_case list_kind)) m c args ≡ Err f → ItemBreaks list_kind Inside Broken c line_start (call name args at) next f
    choice_breaks m stands e =
        elim (bind_err _ _ _ e) [
          | inl h ↦ in_subject stands h
          | inr x ↦ elim (bind_err _ _ _ x.2) [
            | inl h ↦ in_cases stands x.1 (cases_break (bodies (of_case list_kind)) (Inside (of_case list_kind)) (Broken (of_case list_kind)) (ok (of_case list_kind)) (bad (of_case list_kind)) m (case_args m args) c f h)
            | inr y ↦ absurd (no_end _ f y.2)
          ]
        ]

    question_breaks : (m : QuestionMacro) → MayStand list_kind c.stage line_start name args at next (A_question m) → asked_of (bodies (of_case list_kind)) m c args ≡ Err f → ItemBreaks list_kind Inside Broken c line_start (call name args at) next f
    question_breaks m stands e =
        elim (bind_err _ _ _ e) [
          | inl h ↦ in_question stands h
          | inr x ↦ elim (bind_err _ _ _ x.2) [
            | inl h ↦ in_yes stands x.1 (action_breaks (bodies (of_case list_kind)) (Broken (of_case list_kind)) (bad (of_case list_kind)) Yes (action_args m args) (after c x.0.0) f h)
            | inr y ↦ elim (bind_err _ _ _ y.2) [
              | inl h ↦
                  in_no stands x.1 (action_found (bodies (of_case list_kind)) (Inside (of_case list_kind)) (ok (of_case list_kind)) Yes (action_args m args) (after c x.0.0) y.0 y.1)
                  (action_breaks (bodies (of_case list_kind)) (Broken (of_case list_kind)) (bad (of_case list_kind)) No (drop 1 (action_args m args)) (after_cases (after c x.0.0) y.0) f h)
              | inr z ↦ elim (bind_err (completed_of x.0.1 args) _ _ z.2) [
                | inl h ↦
                    in_includes stands x.1 (action_found (bodies (of_case list_kind)) (Inside (of_case list_kind)) (ok (of_case list_kind)) Yes (action_args m args) (after c x.0.0) y.0 y.1)
                    (action_found (bodies (of_case list_kind)) (Inside (of_case list_kind)) (ok (of_case list_kind)) No (drop 1 (action_args m args)) (after_cases (after c x.0.0) y.0) z.0 z.1) h
                | inr w ↦ absurd (no_end _ f w.2)
              ]
            ]
          ]
        ]

    check_breaks : MayStand list_kind c.stage line_start name args at next A_check → check_of bodies c args ≡ Err f → ItemBreaks list_kind Inside Broken c line_start (call name args at) next f
    check_breaks stands e =
        elim (bind_err (here_text (arg_at args 0)) _ _ e) [
          | inl h ↦ in_message stands h
          | inr x ↦ elim (bind_err (cache_name (arg_at args 1)) _ _ x.2) [
            | inl h ↦ in_name stands x.1 h
            | inr y ↦ elim (bind_err (bodies (Commands y.0 (arg_at args 2).at) c (arg_at args 2)) _ _ y.2) [
              | inl h ↦ in_commands stands x.1 y.1 (bad (Commands y.0 (arg_at args 2).at) c (arg_at args 2) f h)
              | inr z ↦ absurd (no_end _ f z.2)
            ]
          ]
        ]

    call_breaks : (m : Macro) → MayStand list_kind c.stage line_start name args at next m → call_of list_kind bodies c m at args ≡ Err f → ItemBreaks list_kind Inside Broken c line_start (call name args at) next f
    call_breaks (Plain m) stands e =
        elim (bind_err _ _ _ e) [
          | inl h ↦ argument stands h
          | inr s ↦ absurd (no_end _ f s.2)
        ]
    call_breaks (A_choice m) stands e = choice_breaks m stands e
    call_breaks (A_question m) stands e = question_breaks m stands e
    call_breaks A_check stands e = check_breaks stands e

pub items_break : (list_kind : ListKind) (bodies : ListKind → Bodies) (Inside : ListKind → Within) (Broken : ListKind → WithinBreaks) (ok : (x : ListKind) → Reads (bodies x) (Inside x)) (bad : (x : ListKind) → Faults (bodies x) (Broken x)) (items : List ItemValue) (c : declarations.Declarations) (line_start : LineStart) (f : ParseFault)
    → items_of list_kind bodies c line_start items ≡ Err f → Breaks list_kind Inside Broken c line_start items f
unfolding items_of
items_break list_kind bodies Inside Broken ok bad [] c line_start f e = absurd (no_end _ f e)
items_break list_kind bodies Inside Broken ok bad (item ∷ items) c line_start f e =
    elim (bind_err _ _ _ e) [
      | inl h ↦ here (item_breaks list_kind bodies Inside Broken ok bad c line_start item items f h)
      | inr x ↦ elim (bind_err _ _ _ x.2) [
        | inl h ↦ following (item_found list_kind bodies Inside ok c line_start item items x.0 x.1) (items_break list_kind bodies Inside Broken ok bad items (after_all c x.0) (line_start_of item) f h)
        | inr z ↦ absurd (no_end _ f z.2)
      ]
    ]

-- An error of a statement argument.
pub body_breaks : (room : ℕ) (list_kind : ListKind) → Faults (body_of room list_kind) (IsBroken room list_kind)
unfolding body_of
body_breaks zero list_kind c arg f e = sym (err_is {A = Script} _ f e)
body_breaks (suc room) list_kind c arg f e =
    elim (bind_err _ _ _ e) [
      | inl h ↦ inl h
      | inr a ↦ inr (
        a.0,
        a.1,
        elim (bind_err _ _ _ a.2) [
          | inl h ↦
              let q = quoted_err (outcome a.0.at a.0.text) f h in
              subst (TextBreaks list_kind (IsBody room) (IsBroken room) c a.0) (sym q.2) (no_items ((outcome_is_fault a.0.at a.0.text q.0).0 q.1))
          | inr i ↦
              in_items ((outcome_is_spelling a.0.at a.0.text i.0).0 (quoted_ok (outcome a.0.at a.0.text) i.0 i.1))
              (items_break list_kind (body_of room) (IsBody room) (IsBroken room) (body_found room) (body_breaks room) i.0 c no_line_start f i.2)
        ],
      )
    ]
