-- The invariants of the loops over items and over cases.
use Rattle.std.proofs.Common.{◌≡◌, ◌+◌, ◌-◌, ◌<◌, ℕ, List, [], ◌∷◌, ◌++◌, length, take, drop, get_or, map, Result, Ok, Err, refl, ap, sym, ◌∙◌, subst, arith}
use Rattle.std.specs.Prelude.{option_to_list, Option, IfOk}
use Rattle.std.specs.Result.{MatchResult}
use Rattle.std.proofs.lemmas.List.{drop_more, take_all, length-drop}
use Rattle.m4quote.specs.declared.item.Arg.{Arg}
use Rattle.m4quote.specs.declared.item.Item.{Item}
use Rattle.m4quote.specs.ItemValue.{Span, ItemValue, span, view, views, call, bare}
use Rattle.ac_statement.specs.declared.fault.ParseFault.{ParseFault}
use Rattle.ac_statement.specs.declared.fault.ParseFault.TheVariants.{OutOfMemory}
use Rattle.ac_statement.specs.declared.placement.LineStart.{LineStart}
use Rattle.ac_statement.specs.Reading.{◌>>=◌, Fails, Gives}
use Rattle.ac_statement.specs.Stand.{line_start_of, no_line_start}
use Rattle.ac_statement.proofs.Binds.{bind_ok, ok_is, fails_bind, fails_along}
use Rattle.ac_macros.specs.declared.macros.ChoiceMacro.{ChoiceMacro}
use Rattle.ac_macros.specs.declared.macros.Macro.{Macro}
use Rattle.ac_macros.specs.declared.macros.QuestionMacro.{QuestionMacro}
use Rattle.ac_tree.specs.declared.declarations.Declarations as declarations
use Rattle.ac_tree.specs.declared.statement.Declares.{Declares}
use Rattle.ac_tree.specs.declared.statement.Question.{Question}
use Rattle.ac_macros.specs.Checks.{completed_of}
use Rattle.ac_macros.specs.Rows.{question_of}
use Rattle.ac_macros.specs.ListKind.{ListKind}
use Rattle.ac_tree.specs.declared.tree.Case as case
use Rattle.ac_tree.specs.declared.tree.Stmt.{Stmt}
use Rattle.ac_tree.specs.declared.tree.When.{When}
use Rattle.ac_tree.specs.declared.tree.When.TheVariants.{Yes, No}
use Rattle.ac_tree.specs.Lists.{after, after_all, after_cases}
use Rattle.ac_tree.specs.Script.{Script, Cases, No_case, Case, joined, followed, script_of, cases_of}
use Rattle.ac_tree.proofs.ScriptLemmas.{script_push, joined_done, joined_assoc, after_joined, cases_push, followed_assoc, after_followed}
use Rattle.acparse.specs.Asked.{asked_with}
use Rattle.acparse.specs.Bare.{bare_of}
use Rattle.acparse.specs.Profile.{Bodies, Adds, following, when_of, case_of, cases_in, action_in, action_args, answers_in, asked_of, items_of, item_of, call_of, checked}
use Rattle.acparse.proofs.Questions.{asked_known}
use Rattle.acparse.proofs.Texts.{bare_known, fails_inside}

-- ---- items

-- The statements so far, followed by those of the rest of the items, are the list.
pub record Items (list_kind : ListKind) (bodies : ListKind → Bodies) (before c : declarations.Declarations) (line_start : LineStart) (out : Script) (all rest : List ItemValue) : Type 0 where
  pub value : following out (items_of list_kind bodies c line_start rest) ≡ items_of list_kind bodies before no_line_start all
  pub known : after_all before out ≡ c

regroup : (out first : Script) (read : Result Script ParseFault) → following out (read >>= λ r. Ok (joined first r)) ≡ following (joined out first) read
regroup out first (Ok r) = ap (λ (s : Script). Ok s) (sym (joined_assoc out first r))
regroup out first (Err f) = refl

items_next : (list_kind : ListKind) (bodies : ListKind → Bodies) (before c c' : declarations.Declarations) (line_start : LineStart) (out out' : Script) (all : List ItemValue) (item : ItemValue) (rest : List ItemValue)
    → Items list_kind bodies before c line_start out all (item ∷ rest) → Adds c c' out out' (item_of list_kind bodies c line_start item rest) → Items list_kind bodies before c' (line_start_of item) out' all rest
unfolding items_of
items_next list_kind bodies before c c' line_start out out' all item rest i a =
    let step = λ (s : Script). items_of list_kind bodies (after_all c s) (line_start_of item) rest >>= λ r. Ok (joined s r) in
    let one : following out (item_of list_kind bodies c line_start item rest >>= step) ≡ following (joined out a.first) (items_of list_kind bodies (after_all c a.first) (line_start_of item) rest) =
    ap (λ x. following out (x >>= step)) a.value ∙ regroup out a.first (items_of list_kind bodies (after_all c a.first) (line_start_of item) rest) in
    record {
      value = ap (λ s. following s (items_of list_kind bodies c' (line_start_of item) rest)) a.list ∙ ap (λ k. following (joined out a.first) (items_of list_kind bodies k (line_start_of item) rest)) a.known ∙ sym one ∙ i.value;
      known = ap (after_all before) a.list ∙ after_joined out a.first before ∙ ap (λ k. after_all k a.first) i.known ∙ sym a.known;
    }

items_fail : (e : ParseFault) (list_kind : ListKind) (bodies : ListKind → Bodies) (before c : declarations.Declarations) (line_start : LineStart) (out : Script) (all : List ItemValue) (item : ItemValue) (rest : List ItemValue)
    → Items list_kind bodies before c line_start out all (item ∷ rest) → Fails e (item_of list_kind bodies c line_start item rest) → Fails e (items_of list_kind bodies before no_line_start all)
unfolding items_of
items_fail e list_kind bodies before c line_start out all item rest i h = fails_along e _ _ i.value (fails_bind e _ _ (fails_bind e _ _ h))

pub items_done : (list_kind : ListKind) (bodies : ListKind → Bodies) (before c : declarations.Declarations) (line_start : LineStart) (out : Script) (all rest : List ItemValue)
    → rest ≡ [] → Items list_kind bodies before c line_start out all rest → items_of list_kind bodies before no_line_start all ≡ Ok out
unfolding items_of
items_done list_kind bodies before c line_start out all rest eq i =
    sym i.value ∙ ap (λ l. following out (items_of list_kind bodies c line_start l)) eq ∙ ap (λ (s : Script). Ok s) (joined_done out)

-- ---- as the loop over items uses them

pub views_drop : (items : List Item) (i : ℕ) (item : Item) → i < length items → item ≡ get_or items i item → views (drop i items) ≡ view item ∷ views (drop (i + 1) items)
views_drop items i item lt is = ap views (drop_more items i item lt) ∙ ap (λ x. view x ∷ views (drop (i + 1) items)) (sym is)

-- The slice from n on.
pub slice_from : {A : Type 0} (items : List A) (n : ℕ) → take (length items - n) (drop n items) ≡ drop n items
slice_from items n = take_all (length items - n) (drop n items) (omega (arith, length-drop n items))

pub items_step : (list_kind : ListKind) (bodies : ListKind → Bodies) (before c c' : declarations.Declarations) (line_start line_start' : LineStart) (out out' : Script) (all : List ItemValue) (item : ItemValue) (here next rest : List ItemValue)
    → here ≡ item ∷ rest → next ≡ rest → line_start' ≡ line_start_of item
    → Items list_kind bodies before c line_start out all here → Adds c c' out out' (item_of list_kind bodies c line_start item next) → Items list_kind bodies before c' line_start' out' all rest
items_step list_kind bodies before c c' line_start line_start' out out' all item here next rest e n f i a =
    subst (λ k. Items list_kind bodies before c' k out' all rest) (sym f)
    (items_next list_kind bodies before c c' line_start out out' all item rest (subst (λ l. Items list_kind bodies before c line_start out all l) e i) (subst (λ l. Adds c c' out out' (item_of list_kind bodies c line_start item l)) n a))

pub items_stop : (x : ParseFault) (list_kind : ListKind) (bodies : ListKind → Bodies) (before c : declarations.Declarations) (line_start : LineStart) (out : Script) (all : List ItemValue) (item : ItemValue) (here next rest : List ItemValue)
    → here ≡ item ∷ rest → next ≡ rest → Items list_kind bodies before c line_start out all here → Fails x (item_of list_kind bodies c line_start item next) → Fails x (items_of list_kind bodies before no_line_start all)
items_stop x list_kind bodies before c line_start out all item here next rest e n i h =
    items_fail x list_kind bodies before c line_start out all item rest (subst (λ l. Items list_kind bodies before c line_start out all l) e i) (subst (λ l. Fails x (item_of list_kind bodies c line_start item l)) n h)

pub call_adds : (list_kind : ListKind) (bodies : ListKind → Bodies) (c c' : declarations.Declarations) (at : ℕ) (line_start : LineStart) (name : List ℕ) (args : List Span) (item : ItemValue) (next : List ItemValue) (m : Macro) (out out' : List Stmt) (s : Stmt)
    → item ≡ call name args at → checked list_kind c.stage line_start name args at next ≡ Ok m → call_of list_kind bodies c m at args ≡ Ok (script_of (s ∷ []))
    → c' ≡ after_all c (script_of (s ∷ [])) → out' ≡ out ++ s ∷ [] → Adds c c' (script_of out) (script_of out') (item_of list_kind bodies c line_start item next)
call_adds list_kind bodies c c' at line_start name args item next m out out' s is check value known list = record {
  first = script_of (s ∷ []);
  value = ap (λ i. item_of list_kind bodies c line_start i next) is ∙ ap (λ r. r >>= λ m. call_of list_kind bodies c m at args) check ∙ value;
  list = ap script_of list ∙ script_push out s;
  known = known;
}

pub bare_adds : (r : Result (Unit {0}) ParseFault) (list_kind : ListKind) (bodies : ListKind → Bodies) (c : declarations.Declarations) (at : ℕ) (line_start : LineStart) (text : List ℕ) (item : ItemValue) (next : List ItemValue) (out out' : Script)
    → item ≡ bare text at → Gives (λ _. out') r (following out (bare_of list_kind c.stage at text))
    → MatchResult r (λ _. Adds c c out out' (item_of list_kind bodies c line_start item next)) (λ e. Fails e (item_of list_kind bodies c line_start item next))
bare_adds (Ok x) list_kind bodies c at line_start text item next out out' is h =
    let f = bind_ok (bare_of list_kind c.stage at text) (λ s. Ok (joined out s)) out' h in
    record {
      first = f.0;
      value = ap (λ i. item_of list_kind bodies c line_start i next) is ∙ f.1;
      list = sym (ok_is _ out' f.2);
      known = sym (bare_known c list_kind c.stage at text f.0 f.1);
    }
bare_adds (Err e) list_kind bodies c at line_start text item next out out' is h =
    fails_along e _ _ (ap (λ i. item_of list_kind bodies c line_start i next) (sym is)) (fails_inside e out _ h)

-- ---- cases

-- Cases, and those that are read after them.
abbrev pub following_cases : Cases → Result Cases ParseFault → Result Cases ParseFault
following_cases front read = read >>= λ more. Ok (followed front more)

-- The cases so far, followed by those of the rest of the arguments, are all.
pub record Choices (bodies : Bodies) (m : ChoiceMacro) (before c : declarations.Declarations) (out : Cases) (all rest : List Span) : Type 0 where
  pub value : following_cases out (cases_in bodies m c rest) ≡ cases_in bodies m before all
  pub known : after_cases before out ≡ c

regroup_cases : (out first : Cases) (read : Result Cases ParseFault) → following_cases out (read >>= λ r. Ok (followed first r)) ≡ following_cases (followed out first) read
regroup_cases out first (Ok r) = ap (λ (s : Cases). Ok s) (sym (followed_assoc out first r))
regroup_cases out first (Err f) = refl

cases_next : (bodies : Bodies) (m : ChoiceMacro) (before c c' : declarations.Declarations) (cases cases' : List case.Case) (x : case.Case) (all : List Span) (w a : Span) (more : List Span)
    → Choices bodies m before c (cases_of cases) all (w ∷ a ∷ more) → when_of m w ≡ Ok x.when → bodies c a ≡ Ok (script_of x.body.items)
    → c' ≡ after_all c (script_of x.body.items) → cases' ≡ cases ++ x ∷ [] → Choices bodies m before c' (cases_of cases') all more
unfolding cases_in
cases_next bodies m before c c' cases cases' x all w a more i when_is body_is known list =
    let body = script_of x.body.items in
    let one = Case x.when body No_case in
    let last = λ (when : When) (b : Script). cases_in bodies m (after_all c b) more >>= λ others. Ok (Case when b others) in
    let out = cases_of cases in
    let step : following_cases out (when_of m w >>= λ when. bodies c a >>= last when) ≡ following_cases (followed out one) (cases_in bodies m (after_all c body) more) =
    ap (λ r. following_cases out (r >>= λ when. bodies c a >>= last when)) when_is ∙ ap (λ r. following_cases out (r >>= last x.when)) body_is
    ∙ regroup_cases out one (cases_in bodies m (after_all c body) more) in
    let new : cases_of cases' ≡ followed out one = ap cases_of list ∙ cases_push cases x in
    record {
      value = ap (λ o. following_cases o (cases_in bodies m c' more)) new ∙ ap (λ k. following_cases (followed out one) (cases_in bodies m k more)) known ∙ sym step ∙ i.value;
      known = ap (after_cases before) new ∙ after_followed out one before ∙ ap (λ k. after_all k body) i.known ∙ sym known;
    }

-- ---- as the loop over cases uses them

-- Two arguments, with any default.
spans_at : (args : List Arg) (i : ℕ) (d e : Arg) → i + 1 < length args → map span (drop i args) ≡ span (get_or args i d) ∷ span (get_or args (i + 1) e) ∷ map span (drop (i + 2) args)
spans_at args i d e lt =
    let one : i < length args = omega arith in
    ap (map span) (drop_more args i d one) ∙ ap (λ l. span (get_or args i d) ∷ map span l) (drop_more args (i + 1) e lt)
    ∙ ap (λ n. span (get_or args i d) ∷ span (get_or args (i + 1) e) ∷ map span (drop n args)) (omega arith)

pub spans_drop : (args : List Arg) (i : ℕ) (x y : Arg) → i + 1 < length args → x ≡ get_or args i x → y ≡ get_or args (i + 1) y → map span (drop i args) ≡ span x ∷ span y ∷ map span (drop (i + 2) args)
spans_drop args i x y lt is_x is_y =
    spans_at args i x y lt
    ∙ ap (λ a. span a ∷ span (get_or args (i + 1) y) ∷ map span (drop (i + 2) args)) (sym is_x)
    ∙ ap (λ a. span x ∷ span a ∷ map span (drop (i + 2) args)) (sym is_y)

pub spans_front : (args : List Arg) (i : ℕ) (x : Arg) → i + 1 < length args → x ≡ get_or args i x → map span (drop i args) ≡ span x ∷ span (get_or args (i + 1) x) ∷ map span (drop (i + 2) args)
spans_front args i x lt is_x = spans_at args i x x lt ∙ ap (λ a. span a ∷ span (get_or args (i + 1) x) ∷ map span (drop (i + 2) args)) (sym is_x)

pub cases_step : (bodies : Bodies) (m : ChoiceMacro) (before c c' : declarations.Declarations) (cases cases' : List case.Case) (x : case.Case) (all here rest : List Span) (w a : Span)
    → here ≡ w ∷ a ∷ rest → Choices bodies m before c (cases_of cases) all here → when_of m w ≡ Ok x.when → bodies c a ≡ Ok (script_of x.body.items)
    → c' ≡ after_all c (script_of x.body.items) → cases' ≡ cases ++ x ∷ [] → Choices bodies m before c' (cases_of cases') all rest
cases_step bodies m before c c' cases cases' x all here rest w a e i p q k l =
    cases_next bodies m before c c' cases cases' x all w a rest (subst (λ s. Choices bodies m before c (cases_of cases) all s) e i) p q k l

pub cases_fail : (e : ParseFault) (bodies : Bodies) (m : ChoiceMacro) (before c : declarations.Declarations) (out : Cases) (all here : List Span)
    → Choices bodies m before c out all here → Fails e (cases_in bodies m c here) → Fails e (cases_in bodies m before all)
cases_fail e bodies m before c out all here i h = fails_along e _ _ i.value (fails_bind e _ _ h)

case_parts : (w x : When) (a b : Script) → Case w a No_case ≡ Case x b No_case → (w ≡ x) × (a ≡ b)
case_parts w x a b e = (cc, cc)

pub case_is : (bodies : Bodies) (m : ChoiceMacro) (c : declarations.Declarations) (w a : Span) (x : case.Case) → case_of bodies m c w a ≡ Ok (cases_of (x ∷ []))
    → (when_of m w ≡ Ok x.when) × (bodies c a ≡ Ok (script_of x.body.items))
unfolding case_of
case_is bodies m c w a x e =
    let one = bind_ok (when_of m w) _ _ e in
    let two = bind_ok (bodies c a) _ _ one.2 in
    let p = case_parts one.0 x.when two.0 (script_of x.body.items) (ok_is _ _ two.2) in
    (one.1 ∙ ap (λ (k : When). Ok k) p.0, two.1 ∙ ap (λ (k : Script). Ok k) p.1)

bound_fails : {A B C D : Type 0} (e : ParseFault) (r : Result A ParseFault) (s : Result B ParseFault) (f : A → B → C) (g : A → B → Result D ParseFault)
    → Fails e (r >>= λ x. s >>= λ y. Ok (f x y)) → Fails e (r >>= λ x. s >>= g x)
bound_fails OutOfMemory r s f g h = tt
bound_fails e (Err d) s f g h = cc
bound_fails e (Ok x) (Err d) f g h = cc
bound_fails e (Ok x) (Ok y) f g h = absurd cc

pub case_fails : (e : ParseFault) (bodies : Bodies) (m : ChoiceMacro) (c : declarations.Declarations) (here more : List Span) (w a : Span) → here ≡ w ∷ a ∷ more → Fails e (case_of bodies m c w a) → Fails e (cases_in bodies m c here)
unfolding cases_in case_of
case_fails e bodies m c here more w a is h =
    fails_along e _ _ (sym (ap (cases_in bodies m c) is))
    (bound_fails e (when_of m w) (bodies c a) (λ when body. Case when body No_case) (λ when body. cases_in bodies m (after_all c body) more >>= λ others. Ok (Case when body others)) h)

-- At the end a default is appended, or none.
pub cases_done : (bodies : Bodies) (m : ChoiceMacro) (before c : declarations.Declarations) (cases : List case.Case) (last : Option case.Case) (all here seen : List Span)
    → Choices bodies m before c (cases_of cases) all here → seen ≡ here → cases_in bodies m c seen ≡ Ok (cases_of (option_to_list last))
    → cases_in bodies m before all ≡ Ok (followed (cases_of cases) (cases_of (option_to_list last)))
cases_done bodies m before c cases last all here seen i same h = sym i.value ∙ ap (λ s. following_cases (cases_of cases) (cases_in bodies m c s)) (sym same) ∙ ap (following_cases (cases_of cases)) h

pub default_known : (before c c' : declarations.Declarations) (cases : List case.Case) (last : Option case.Case) → after_cases before (cases_of cases) ≡ c → c' ≡ after_cases c (cases_of (option_to_list last))
    → c' ≡ after_cases before (followed (cases_of cases) (cases_of (option_to_list last)))
default_known before c c' cases last k h =
    h ∙ ap (λ x. after_cases x (cases_of (option_to_list last))) (sym k) ∙ sym (after_followed (cases_of cases) (cases_of (option_to_list last)) before)

-- ---- questions

one_action : (next : Cases → Result Script ParseFault) (first : Cases) (other : Result Cases ParseFault)
    → (other >>= λ o. next (followed first o)) ≡ ((other >>= λ o. Ok (followed first o)) >>= next)
one_action next first (Ok o) = refl
one_action next first (Err f) = refl

two_actions : (next : Cases → Result Script ParseFault) (first : Result Cases ParseFault) (other : Cases → Result Cases ParseFault)
    → (first >>= λ f. other f >>= λ o. next (followed f o)) ≡ ((first >>= λ f. other f >>= λ o. Ok (followed f o)) >>= next)
two_actions next (Ok f) other = one_action next f (other f)
two_actions next (Err f) other = refl

-- A question is read, then its answers, and then its includes.
pub asked_is : (bodies : Bodies) (m : QuestionMacro) (c : declarations.Declarations) (args : List Span) (q : Declares × Question) → question_of c m args ≡ Ok q
    → asked_of bodies m c args ≡ (answers_in bodies (after c q.0) (action_args m args) >>= λ cases. asked_with q.0 q.1 cases args)
unfolding asked_of answers_in
asked_is bodies m c args q is =
    ap (λ r. r >>= λ q. action_in bodies Yes (after c q.0) (action_args m args) >>= λ first. action_in bodies No (after_cases (after c q.0) first) (drop 1 (action_args m args)) >>= λ other. asked_with q.0 q.1 (followed first other) args) is
    ∙ two_actions (λ cases. asked_with q.0 q.1 cases args) (action_in bodies Yes (after c q.0) (action_args m args)) (λ first. action_in bodies No (after_cases (after c q.0) first) (drop 1 (action_args m args)))

-- With its answers read, what is left is the includes.
pub asked_rest : (bodies : Bodies) (m : QuestionMacro) (c d : declarations.Declarations) (args actions : List Span) (q : Declares × Question) (cases : Cases) → question_of c m args ≡ Ok q
    → d ≡ after c q.0 → actions ≡ action_args m args → answers_in bodies d actions ≡ Ok cases → asked_of bodies m c args ≡ asked_with q.0 q.1 cases args
asked_rest bodies m c d args actions q cases is k a read =
    let here : answers_in bodies (after c q.0) (action_args m args) ≡ Ok cases =
    ap (λ x. answers_in bodies x (action_args m args)) (sym k) ∙ ap (answers_in bodies d) (sym a) ∙ read in
    asked_is bodies m c args q is ∙ ap (λ r. r >>= λ cases. asked_with q.0 q.1 cases args) here

-- An error in its answers is one of the whole.
pub asked_fails : (e : ParseFault) (bodies : Bodies) (m : QuestionMacro) (c d : declarations.Declarations) (args actions : List Span) (q : Declares × Question) → question_of c m args ≡ Ok q
    → d ≡ after c q.0 → actions ≡ action_args m args → Fails e (answers_in bodies d actions) → Fails e (asked_of bodies m c args)
asked_fails e bodies m c d args actions q is k a h =
    let here : asked_of bodies m c args ≡ (answers_in bodies d actions >>= λ cases. asked_with q.0 q.1 cases args) =
    asked_is bodies m c args q is ∙ ap (λ x. answers_in bodies x (action_args m args) >>= λ cases. asked_with q.0 q.1 cases args) (sym k)
    ∙ ap (λ x. answers_in bodies d x >>= λ cases. asked_with q.0 q.1 cases args) (sym a) in
    fails_along e _ _ (sym here) (fails_bind e _ _ h)

-- The statement declares what the macro and the cases do.
pub asked_with_known : (c d e : declarations.Declarations) (declared : Declares) (q : Question) (args : List Span) (cases : Cases) (r : Result Stmt ParseFault)
    → d ≡ after c declared → e ≡ after_cases d cases → Gives (λ s. script_of (s ∷ [])) r (asked_with declared q cases args) → IfOk r (λ s. e ≡ after_all c (script_of (s ∷ [])))
unfolding asked_with
asked_with_known c d e declared q args cases (Ok s) k l h =
    let w = bind_ok (completed_of q args) _ _ h in
    l ∙ ap (λ x. after_cases x cases) k ∙ sym (asked_known c declared w.0 cases) ∙ ap (after_all c) (ok_is _ _ w.2)
asked_with_known c d e declared q args cases (Err f) k l h = tt
