-- The names that a statement adds to a source's lists leave them within their limits.
use Rattle.std.proofs.Common.{◌≡◌, ℕ, ◌+◌, ◌≤◌, ◌<◌, Bool, true, false, ◌||◌, List, [], ◌∷◌, ◌++◌, length, Option, Result, Ok, refl, sym, ap, subst, cond, ◌∙◌, arith}
use Rattle.std.specs.Prelude.{codes, bytes_eq, nat_lt, not}
use Rattle.std.specs.List.{list_any, IsDistinct}
use Rattle.std.proofs.lemmas.Bool.{ltb-true, leb-true, or_right}
use Rattle.std.proofs.lemmas.List.{length-append}
use Rattle.std.proofs.lemmas.Map.Made.{length-le_from_is_member}
use Rattle.std.specs.Cmp.Lexicographic.{nat_list_eq_equiv}
use Rattle.deftable.specs.NameList.{with_name, has_name, AreDistinct}
use Rattle.deftable.proofs.Names.{has_name-with_name, with_name-known, with_name-new, AreDistinct-with_name}
use Rattle.text_cut.specs.Cuts.{fields}
use Rattle.m4quote.specs.ItemValue.{Span}
use Rattle.ac_statement.specs.declared.fault.ParseFault.{ParseFault}
use Rattle.ac_statement.specs.declared.fault.ParseFault.TheVariants.{BadName}
use Rattle.output_list.specs.declared.output.Output.{Output}
use Rattle.ac_tree.specs.declared.feature.OptionKind.{OptionKind}
use Rattle.ac_tree.specs.declared.feature.OptionKind.TheVariants.{Feature, Package}
use Rattle.ac_args.specs.Arguments.{name, text, title}
use Rattle.ac_statement.specs.Texts.{arg_at}
use Rattle.ac_args.specs.Feature.{feature_variable}
use Rattle.ac_args.specs.Help.{help}
use Rattle.output_list.specs.Output.{has_output}
use Rattle.output_list.specs.Path.{is_path}
use Rattle.output_list.specs.Output.{IsOutput, AreOutputs}
use Rattle.output_list.proofs.Adding.{AreOutputs-none, AreOutputs-more_files, AreOutputs-more_headers}
use Rattle.ac_args.specs.Path.{output_in}
use Rattle.ac_args.specs.Programs.{program, programs}
use Rattle.ac_statement.specs.Reading.{wants}
use Rattle.ac_args.specs.Shell.{here_text}
use Rattle.ac_args.specs.Outputs.{outputs, with_fields, one_more, wanted}
use Rattle.ac_statement.proofs.Binds.{bind_ok, ok_is, wants_ok}
use Rattle.shellword.specs.declared.part.Part.{Part}
use Rattle.ac_macros.specs.declared.macros.DeclaringMacro.{DeclaringMacro}
use Rattle.ac_macros.specs.declared.macros.DeclaringMacro.TheVariants as macro
use Rattle.ac_macros.specs.declared.macros.PlainMacro.{PlainMacro}
use Rattle.ac_macros.specs.declared.macros.PlainMacro.TheVariants as plain
use Rattle.ac_macros.specs.declared.macros.QuestionMacro.{QuestionMacro}
use Rattle.ac_macros.specs.declared.macros.QuestionMacro.TheVariants as questions
use Rattle.ac_tree.specs.declared.help.Help.{Help}
use Rattle.ac_tree.specs.declared.declarations.Declarations as declarations
use Rattle.ac_tree.specs.declared.statement.Declares.{Declares}
use Rattle.ac_tree.specs.declared.statement.Effect.{Effect}
use Rattle.ac_tree.specs.declared.statement.Effect.TheVariants.{Search, Searches}
use Rattle.ac_tree.specs.declared.statement.OutputKind.{OutputKind}
use Rattle.ac_tree.specs.declared.statement.OutputKind.TheVariants.{File, Header}
use Rattle.ac_tree.specs.declared.statement.ProgramValue.TheVariants.{FullName}
use Rattle.ac_tree.specs.declared.statement.Question.{Question}
use Rattle.ac_tree.specs.Limits.{IsWithinLimits}
use Rattle.ac_macros.specs.Room.{has_room}
use Rattle.ac_macros.specs.Rows.{plain_of, act_of, declaring_of, undeclared, init, tarname, outputs_of, config_outputs, subst as subst_row, assigned, arg_var, question_of, option_question, options_of}
use Rattle.ac_tree.specs.Lists.{start, after, with_outputs, with_option, with_tool}
use Rattle.ac_macros.specs.Searches.{growth, output_variable, optional_text, searched, compilers, check_prog, check_progs, path_prog, prog_cc}

-- ---- lists of names

has_name-list_any : (ns : List (List ℕ)) (k : List ℕ) → has_name ns k ≡ list_any (λ n. bytes_eq k n) ns
unfolding has_name
has_name-list_any [] k = refl
has_name-list_any (n ∷ ns) k = ap (λ b. bytes_eq k n || b) (has_name-list_any ns k)

AreDistinct-[] : AreDistinct []
unfolding IsDistinct
AreDistinct-[] = tt

-- Every name of one list is in the other.
abbrev IsPart : List (List ℕ) → List (List ℕ) → Type 0
IsPart p s = (n : List ℕ) → has_name p n ≡ true → has_name s n ≡ true

part_wider : (p s : List (List ℕ)) (n : List ℕ) → IsPart p s → IsPart p (with_name s n)
part_wider p s n h = λ q e. has_name-with_name s n q ∙ or_right (bytes_eq q n) (has_name s q) (h q e)

part_both : (p s : List (List ℕ)) (n : List ℕ) → IsPart p s → IsPart (with_name p n) (with_name s n)
part_both p s n h = λ q e. has_name-with_name s n q ∙ by q (bytes_eq q n) (sym (has_name-with_name p n q) ∙ e)
  where
    by : (q : List ℕ) (b : Bool) → (b || has_name p q) ≡ true → (b || has_name s q) ≡ true
    by q true e = refl
    by q false e = h q e

length-with_name : (ns : List (List ℕ)) (n : List ℕ) → length (with_name ns n) ≡ length ns + growth ns n
length-with_name ns n = by (has_name ns n) refl
  where
    by : (b : Bool) → has_name ns n ≡ b → length (with_name ns n) ≡ length ns + cond b 0 1
    by true e = rw (with_name-known ns n e) (omega arith)
    by false e = rw (with_name-new ns n e) (length-append ns (n ∷ []))

-- A name that is in the list before is in it after.
growth_falls : (ns : List (List ℕ)) (k q : List ℕ) → growth (with_name ns k) q ≤ growth ns q
growth_falls ns k q = subst (λ (b : Bool). cond b 0 1 ≤ growth ns q) (sym (has_name-with_name ns k q)) (by (bytes_eq q k) (has_name ns q))
  where
    by : (a b : Bool) → cond (a || b) 0 1 ≤ cond b 0 1
    by true b = omega arith
    by false b = omega arith

room_for : (ns : List (List ℕ)) (n : List ℕ) → has_room ns n ≡ true → length ns ≤ 1024 → length (with_name ns n) ≤ 1024
room_for ns n room h = by (has_name ns n) refl room
  where
    by : (b : Bool) → has_name ns n ≡ b → (b || nat_lt (length ns) 1024) ≡ true → length (with_name ns n) ≤ 1024
    by true e r = rw (with_name-known ns n e) h
    by false e r = rw (with_name-new ns n e, length-append ns (n ∷ [])) (omega (arith, ltb-true (length ns) 1024 r))

room_for_five : (ns : List (List ℕ)) (a b c d e : List ℕ) → length ns + growth ns a + growth ns b + growth ns c + growth ns d + growth ns e ≤ 1024
    → length (with_name (with_name (with_name (with_name (with_name ns a) b) c) d) e) ≤ 1024
room_for_five ns a b c d e room =
    let one = with_name ns a in
    let two = with_name one b in
    let three = with_name two c in
    let four = with_name three d in
    falling (length ns) (length one) (length two) (length three) (length four) (length (with_name four e))
    (growth ns a) (growth ns b) (growth one b) (growth ns c) (growth one c) (growth two c) (growth ns d) (growth one d) (growth two d) (growth three d)
    (growth ns e) (growth one e) (growth two e) (growth three e) (growth four e)
    (length-with_name ns a) (length-with_name one b) (length-with_name two c) (length-with_name three d) (length-with_name four e)
    (growth_falls ns a b) (growth_falls ns a c) (growth_falls one b c) (growth_falls ns a d) (growth_falls one b d) (growth_falls two c d)
    (growth_falls ns a e) (growth_falls one b e) (growth_falls two c e) (growth_falls three d e) room
  where
    falling : (l l1 l2 l3 l4 l5 a b b1 c c1 c2 d d1 d2 d3 e e1 e2 e3 e4 : ℕ) → l1 ≡ l + a → l2 ≡ l1 + b1 → l3 ≡ l2 + c2 → l4 ≡ l3 + d3 → l5 ≡ l4 + e4
        → b1 ≤ b → c1 ≤ c → c2 ≤ c1 → d1 ≤ d → d2 ≤ d1 → d3 ≤ d2 → e1 ≤ e → e2 ≤ e1 → e3 ≤ e2 → e4 ≤ e3 → l + a + b + c + d + e ≤ 1024 → l5 ≤ 1024
    falling l l1 l2 l3 l4 l5 a b b1 c c1 c2 d d1 d2 d3 e e1 e2 e3 e4 h1 h2 h3 h4 h5 i1 i2 i3 i4 i5 i6 i7 i8 i9 i10 room = omega arith

-- There are at most as many precious variables as output variables.
pub precious_count : (c : declarations.Declarations) → IsWithinLimits c → length c.precious ≤ 1024
precious_count c h =
    let few : length c.precious ≤ length c.substituted =
    length-le_from_is_member nat_list_eq_equiv c.precious c.substituted h.distinct
    (λ q e. sym (has_name-list_any c.substituted q) ∙ h.precious q (has_name-list_any c.precious q ∙ e)) in
    omega (arith, few, h.substituted)

-- ---- files

-- A property of the outputs of an argument that each new one keeps, given the outputs of its kind and the other ones.
abbrev KeptBy : List Output → List Output → (List Output → Type 0) → Type 0
KeptBy own other P = (outs : List Output) (o : Output) → IsOutput o → has_output own o.name ≡ false → has_output other o.name ≡ false → has_output outs o.name ≡ false
    → length own + length outs < 1024 → P outs → P (outs ++ o ∷ [])

one_more_keeps : (P : List Output → Type 0) (at : ℕ) (own other outs o : List Output) (field : List ℕ) → KeptBy own other P → one_more at own other outs field ≡ Ok o → P outs → P o
unfolding one_more wanted
one_more_keeps P at own other outs o field kept e h =
    let one = output_in field in
    let w = bind_ok (wanted at own other outs one) _ _ e in
    let a = bind_ok (wants (is_path one.name) (BadName at)) _ _ w.1 in
    let b = bind_ok (wants (is_path one.template) (BadName at)) _ _ a.2 in
    let c = bind_ok (wants (not (has_output own one.name)) (BadName at)) _ _ b.2 in
    let d = bind_ok (wants (not (has_output other one.name)) (BadName at)) _ _ c.2 in
    let f = bind_ok (wants (not (has_output outs one.name)) (BadName at)) _ _ d.2 in
    subst P (ok_is _ o w.2)
    (kept outs one (wants_ok _ _ _ a.1, wants_ok _ _ _ b.1) (is_not _ (wants_ok _ _ _ c.1)) (is_not _ (wants_ok _ _ _ d.1)) (is_not _ (wants_ok _ _ _ f.1))
    (ltb-true _ _ (wants_ok _ _ _ f.2)) h)
  where
    is_not : (b : Bool) → not b ≡ true → b ≡ false
    is_not true e = absurd cc
    is_not false e = refl

fields_keep : (P : List Output → Type 0) (at : ℕ) (own other outs o : List Output) (list : List (List ℕ)) → KeptBy own other P → with_fields at own other outs list ≡ Ok o → P outs → P o
unfolding with_fields
fields_keep P at own other outs o [] kept e h = subst P (ok_is _ o e) h
fields_keep P at own other outs o (field ∷ more) kept e h =
    let a = bind_ok _ _ _ e in
    fields_keep P at own other a.0 o more kept a.2 (one_more_keeps P at own other outs a.0 field kept a.1 h)

outputs_keep : (P : List Output → Type 0) (own other o : List Output) (arg : Span) → KeptBy own other P → outputs own other arg ≡ Ok o → P [] → P o
unfolding outputs
outputs_keep P own other o arg kept e h =
    let a = bind_ok (text arg) _ _ e in
    let b = bind_ok (wants (nat_lt 0 (length (fields a.0))) (BadName arg.at)) _ _ a.2 in
    fields_keep P arg.at own other [] o (fields a.0) kept b.2 h

-- There are at most 1,024 outputs of a kind, with these.
abbrev IsShort : List Output → List Output → Type 0
IsShort own outs = length own + length outs ≤ 1024

short_kept : (own other : List Output) → KeptBy own other (IsShort own)
short_kept own other outs o is a b c room h = rw length-append (omega (arith, room))

-- ---- what macros declare

-- What is read declares something that leaves the lists within their limits.
abbrev Keeps : {A : Type 0} → declarations.Declarations → Declares × A → Type 0
Keeps c s = IsWithinLimits (after c s.0)

-- A macro that declares nothing adds nothing.
undeclared_keeps : {A : Type 0} (c : declarations.Declarations) (r : Result A ParseFault) (s : Declares × A) → undeclared r ≡ Ok s → IsWithinLimits c → Keeps c s
unfolding undeclared after
undeclared_keeps c r s e h = let x = bind_ok r _ _ e in subst (Keeps c) (ok_is _ s x.2) h

-- One output variable is appended.
variable_fits : (c : declarations.Declarations) (n : List ℕ) → has_room c.substituted n ≡ true → IsWithinLimits c → IsWithinLimits (record c { substituted = with_name c.substituted n })
variable_fits c n room h = record {
  substituted = room_for c.substituted n room h.substituted;
  distinct = h.distinct;
  precious = part_wider c.precious c.substituted n h.precious;
  features = h.features;
  packages = h.packages;
  files = h.files;
  headers = h.headers;
  outputs = h.outputs;
}

init_keeps : (c : declarations.Declarations) (args : List Span) (s : Declares × Effect) → init args ≡ Ok s → IsWithinLimits c → Keeps c s
unfolding init after
init_keeps c args s e h =
    let a = bind_ok (title (arg_at args 0)) _ _ e in
    let b = bind_ok (title (arg_at args 1)) _ _ a.2 in
    let d = bind_ok (title (arg_at args 2)) _ _ b.2 in
    let f = bind_ok (tarname (arg_at args 3) a.0) _ _ d.2 in
    let g = bind_ok (title (arg_at args 4)) _ _ f.2 in
    subst (Keeps c) (ok_is _ s g.2)
    (record { substituted = h.substituted; distinct = h.distinct; precious = h.precious; features = h.features; packages = h.packages; files = h.files; headers = h.headers; outputs = h.outputs })

outputs_within : (c : declarations.Declarations) (kind : OutputKind) (arg : Span) (o : List Output) → outputs_of c kind arg ≡ Ok o → IsWithinLimits c → IsWithinLimits (with_outputs c kind o)
outputs_within c File arg o e h =
    let fit : IsShort c.files o = outputs_keep (IsShort c.files) c.files c.headers o arg (short_kept c.files c.headers) e (omega (arith, h.files)) in
    let are = outputs_keep (λ outs. AreOutputs (c.files ++ outs) c.headers) c.files c.headers o arg
    (λ outs o is own other new room k. AreOutputs-more_files c.files outs c.headers o is own new other k) e (AreOutputs-none c.files c.headers h.outputs).0 in
    record { substituted = h.substituted; distinct = h.distinct; precious = h.precious; features = h.features; packages = h.packages; files = rw (length-append c.files o) fit; headers = h.headers; outputs = are }
outputs_within c Header arg o e h =
    let fit : IsShort c.headers o = outputs_keep (IsShort c.headers) c.headers c.files o arg (short_kept c.headers c.files) e (omega (arith, h.headers)) in
    let are = outputs_keep (λ outs. AreOutputs c.files (c.headers ++ outs)) c.headers c.files o arg
    (λ outs o is own other new room k. AreOutputs-more_headers c.files c.headers outs o is other own new k) e (AreOutputs-none c.files c.headers h.outputs).1 in
    record { substituted = h.substituted; distinct = h.distinct; precious = h.precious; features = h.features; packages = h.packages; files = h.files; headers = rw (length-append c.headers o) fit; outputs = are }

config_outputs_keep : (c : declarations.Declarations) (kind : OutputKind) (args : List Span) (s : Declares × Effect) → config_outputs c kind args ≡ Ok s → IsWithinLimits c → Keeps c s
unfolding config_outputs after
config_outputs_keep c kind args s e h =
    let o = bind_ok (outputs_of c kind (arg_at args 0)) _ _ e in
    subst (Keeps c) (ok_is _ s o.2) (outputs_within c kind (arg_at args 0) o.0 o.1 h)

-- The output variable that a call names.
variable_room : (c : declarations.Declarations) (arg : Span) (v : List ℕ) → output_variable c arg ≡ Ok v → has_room c.substituted v ≡ true
unfolding output_variable
variable_room c arg v e =
    let n = bind_ok (name arg) _ _ e in
    let w = bind_ok _ _ _ n.2 in
    subst (λ (v : List ℕ). has_room c.substituted v ≡ true) (ok_is _ v w.2) (wants_ok _ _ _ w.1)

subst_keeps : (c : declarations.Declarations) (args : List Span) (s : Declares × Effect) → subst_row c args ≡ Ok s → IsWithinLimits c → Keeps c s
unfolding subst_row after
subst_keeps c args s e h =
    let n = bind_ok (output_variable c (arg_at args 0)) _ _ e in
    let a = bind_ok (assigned n.0 (arg_at args 1)) _ _ n.2 in
    subst (Keeps c) (ok_is _ s a.2) (variable_fits c n.0 (variable_room c (arg_at args 0) n.0 n.1) h)

arg_var_keeps : (c : declarations.Declarations) (args : List Span) (s : Declares × Effect) → arg_var c args ≡ Ok s → IsWithinLimits c → Keeps c s
unfolding arg_var after
arg_var_keeps c args s e h =
    let n = bind_ok (output_variable c (arg_at args 0)) _ _ e in
    let v = bind_ok (text (arg_at args 1)) _ _ n.2 in
    subst (Keeps c) (ok_is _ s v.2)
    (record {
      substituted = room_for c.substituted n.0 (variable_room c (arg_at args 0) n.0 n.1) h.substituted;
      distinct = AreDistinct-with_name c.precious n.0 h.distinct;
      precious = part_both c.precious c.substituted n.0 h.precious;
      features = h.features;
      packages = h.packages;
      files = h.files;
      headers = h.headers;
      outputs = h.outputs;
    })

check_prog_keeps : (c : declarations.Declarations) (args : List Span) (s : Declares × Effect) → check_prog c args ≡ Ok s → IsWithinLimits c → Keeps c s
unfolding check_prog after
check_prog_keeps c args s e h =
    let v = bind_ok (output_variable c (arg_at args 0)) _ _ e in
    let p = bind_ok (program (arg_at args 1)) _ _ v.2 in
    let f = bind_ok (here_text (arg_at args 2)) _ _ p.2 in
    let o = bind_ok (optional_text (arg_at args 3)) _ _ f.2 in
    subst (Keeps c) (ok_is _ s o.2) (variable_fits c v.0 (variable_room c (arg_at args 0) v.0 v.1) h)

searched_keeps : {A : Type 0} (reader : Span → Result A ParseFault) (effect : List ℕ → A → Option (List Part) → Effect)
    (c : declarations.Declarations) (args : List Span) (s : Declares × Effect) → searched reader effect c args ≡ Ok s → IsWithinLimits c → Keeps c s
unfolding after
searched_keeps reader effect c args s e h =
    let v = bind_ok (output_variable c (arg_at args 0)) _ _ e in
    let p = bind_ok (reader (arg_at args 1)) _ _ v.2 in
    let o = bind_ok (optional_text (arg_at args 2)) _ _ p.2 in
    subst (Keeps c) (ok_is _ s o.2) (variable_fits c v.0 (variable_room c (arg_at args 0) v.0 v.1) h)

prog_cc_keeps : (c : declarations.Declarations) (at : ℕ) (args : List Span) (s : Declares × Effect) → prog_cc c at args ≡ Ok s → IsWithinLimits c → Keeps c s
unfolding prog_cc after
prog_cc_keeps c at args s e h =
    let w = bind_ok _ _ _ e in
    let l = bind_ok (compilers (arg_at args 0)) _ _ w.2 in
    subst (Keeps c) (ok_is _ s l.2)
    (five (codes "CC") (codes "CFLAGS") (codes "LDFLAGS") (codes "LIBS") (codes "CPPFLAGS") (leb-true _ _ (wants_ok _ _ _ w.1)))
  where
    five : (a b d e f : List ℕ) → length c.substituted + growth c.substituted a + growth c.substituted b + growth c.substituted d + growth c.substituted e + growth c.substituted f ≤ 1024
        → IsWithinLimits (with_tool (with_tool (with_tool (with_tool (with_tool c a) b) d) e) f)
    five a b d e f room = record {
      substituted = room_for_five c.substituted a b d e f room;
      distinct = AreDistinct-with_name _ f (AreDistinct-with_name _ e (AreDistinct-with_name _ d (AreDistinct-with_name _ b (AreDistinct-with_name _ a h.distinct))));
      precious = part_both _ _ f (part_both _ _ e (part_both _ _ d (part_both _ _ b (part_both _ _ a h.precious))));
      features = h.features;
      packages = h.packages;
      files = h.files;
      headers = h.headers;
      outputs = h.outputs;
    }

declaring_keeps : (c : declarations.Declarations) (m : DeclaringMacro) (at : ℕ) (args : List Span) (s : Declares × Effect) → declaring_of c m at args ≡ Ok s → IsWithinLimits c → Keeps c s
unfolding after check_progs path_prog
declaring_keeps c macro.Init at args s e h = init_keeps c args s e h
declaring_keeps c (macro.ConfigOutputs kind) at args s e h = config_outputs_keep c kind args s e h
declaring_keeps c macro.Subst at args s e h = subst_keeps c args s e h
declaring_keeps c macro.ArgVar at args s e h = arg_var_keeps c args s e h
declaring_keeps c macro.ProgCc at args s e h = prog_cc_keeps c at args s e h
declaring_keeps c macro.CheckProg at args s e h = check_prog_keeps c args s e h
declaring_keeps c macro.CheckProgs at args s e h = searched_keeps programs (λ v list other. Searches v list other) c args s e h
declaring_keeps c macro.PathProg at args s e h = searched_keeps program (λ v p other. Search v p FullName other) c args s e h
declaring_keeps c macro.Output at args s e h =
    subst (Keeps c) (ok_is _ s e)
    (record { substituted = h.substituted; distinct = h.distinct; precious = h.precious; features = h.features; packages = h.packages; files = h.files; headers = h.headers; outputs = h.outputs })

pub plain_keeps : (c : declarations.Declarations) (m : PlainMacro) (at : ℕ) (args : List Span) (s : Declares × Effect) → plain_of c m at args ≡ Ok s → IsWithinLimits c → Keeps c s
plain_keeps c (plain.Acts m) at args s e h = undeclared_keeps c (act_of m args) s e h
plain_keeps c (plain.Declares m) at args s e h = declaring_keeps c m at args s e h

-- ---- questions

given_keeps : (c : declarations.Declarations) (kind : OptionKind) (args : List Span) (s : Declares × Question) → option_question c kind args ≡ Ok s → IsWithinLimits c → Keeps c s
unfolding option_question after
given_keeps c kind args s e h =
    let v = bind_ok (feature_variable kind (arg_at args 0)) _ _ e in
    let w = bind_ok _ _ _ v.2 in
    let p = bind_ok (help (arg_at args 1)) _ _ w.2 in
    subst (Keeps c) (ok_is _ s p.2) (by kind v.0 p.0 (wants_ok _ _ _ w.1))
  where
    by : (kind : OptionKind) (v : List ℕ) (p : Help) → has_room (options_of c kind) v ≡ true → IsWithinLimits (with_option c kind v p)
    by Feature v p room = record { substituted = h.substituted; distinct = h.distinct; precious = h.precious; features = room_for c.features v room h.features; packages = h.packages; files = h.files; headers = h.headers; outputs = h.outputs }
    by Package v p room = record { substituted = h.substituted; distinct = h.distinct; precious = h.precious; features = h.features; packages = room_for c.packages v room h.packages; files = h.files; headers = h.headers; outputs = h.outputs }

pub question_keeps : (c : declarations.Declarations) (m : QuestionMacro) (args : List Span) (s : Declares × Question) → question_of c m args ≡ Ok s → IsWithinLimits c → Keeps c s
question_keeps c (questions.Given kind) args s e h = given_keeps c kind args s e h
question_keeps c m args s e h = undeclared_keeps c _ s e h

pub start_fits : IsWithinLimits start
start_fits = record { substituted = omega arith; distinct = AreDistinct-[]; precious = λ n e. e; features = omega arith; packages = omega arith; files = omega arith; headers = omega arith; outputs = record { file_paths = tt; header_paths = tt; names = AreDistinct-[] } }
