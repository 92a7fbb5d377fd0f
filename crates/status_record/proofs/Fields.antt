-- Fields of lines: what is written is read, and what is read was written.
use Rattle.std.proofs.Common.{◌≡◌, ℕ, Bool, true, false, cond, ◌&&◌, List, ◌∷◌, ◌++◌, refl, ap, ◌∙◌, subst}
use Rattle.std.specs.Prelude.{Option, Some, None, option_map, option_and_then}
use Rattle.std.proofs.lemmas.Bool.{cond-true, and_from}
use Rattle.deftable.specs.ShellName.{is_shell_name_of, IsShellName}
use Rattle.output_list.specs.declared.output.Output.{Output}
use Rattle.status_record.specs.Escape.{escaped, unescaped}
use Rattle.status_record.specs.Line.{cut, entry_of, entry_in, entry_fields, output_in, output_of, output_fields}
use Rattle.output_list.specs.Output.{IsOutput}
use Rattle.output_list.specs.Path.{is_path}
use Rattle.status_record.proofs.Escapes.{unescaped-escaped, escaped-unescaped}
use Rattle.status_record.proofs.Texts.{first_of, second_of, cut_back, cut_only, shell_lacks_blank, path_lacks_blank, escaped_lacks_blank}

abbrev some : {A : Type 0} → A → Option A
some x = Some x

some_is : {A : Type 0} (a b : A) → some a ≡ some b → a ≡ b
some_is a b e = cc

and_then_some : {A B : Type 0} (o : Option A) (f : A → Option B) (y : B) → option_and_then f o ≡ Some y → (x : A) × (o ≡ Some x) × (f x ≡ Some y)
and_then_some None f y e = absurd cc
and_then_some (Some x) f y e = (x, refl, e)

map_some : {A B : Type 0} (o : Option A) (f : A → B) (y : B) → option_map f o ≡ Some y → (x : A) × (o ≡ Some x) × (f x ≡ y)
map_some None f y e = absurd cc
map_some (Some x) f y e = (x, refl, some_is (f x) y e)

cond_some : {A : Type 0} (b : Bool) (o : Option A) (y : A) → cond b o None ≡ Some y → (b ≡ true) × (o ≡ Some y)
cond_some true o y e = (refl, e)
cond_some false o y e = absurd cc

pub entry_back : (e : List ℕ × List ℕ) → IsShellName e.0 → entry_in (entry_fields e) ≡ Some e
unfolding entry_in
entry_back e is =
    ap (option_and_then entry_of) (cut_back e.0 (escaped e.1) (shell_lacks_blank e.0 is))
    ∙ cond-true _ _ _ is ∙ ap (option_map (λ v. (e.0, v))) (unescaped-escaped e.1)

pub entry_only : (fields : List ℕ) (e : List ℕ × List ℕ) → entry_in fields ≡ Some e → IsShellName e.0 × (fields ≡ entry_fields e)
unfolding entry_in
entry_only fields e h =
    let p = and_then_some (cut fields) entry_of e h in
    let g = p.0 in
    let q = cond_some (is_shell_name_of g.0) (option_map (λ v. (g.0, v)) (unescaped g.1)) e p.2 in
    let m = map_some (unescaped g.1) (λ v. (g.0, v)) e q.1 in
    let text : g.1 ≡ escaped m.0 = escaped-unescaped g.1 m.0 m.1 in
    let named : IsShellName e.0 = subst (λ x. IsShellName x.0) m.2 q.0 in
    (named, cut_only fields g p.1 ∙ ap (λ t. g.0 ++ 32 ∷ t) text ∙ ap entry_fields m.2)

pub output_back : (o : Output) → IsOutput o → output_in (output_fields o) ≡ Some o
unfolding output_in
output_back o is =
    ap (option_and_then (λ f. option_and_then (λ name. option_and_then (output_of name) (unescaped f.1)) (unescaped f.0)))
    (cut_back (escaped o.name) (escaped o.template) (escaped_lacks_blank o.name (path_lacks_blank o.name is.0)))
    ∙ ap (option_and_then (λ name. option_and_then (output_of name) (unescaped (escaped o.template)))) (unescaped-escaped o.name)
    ∙ ap (option_and_then (output_of o.name)) (unescaped-escaped o.template) ∙ cond-true _ _ _ (and_from _ _ is.0 is.1)

pub output_only : (fields : List ℕ) (o : Output) → output_in fields ≡ Some o → IsOutput o × (fields ≡ output_fields o)
unfolding output_in
output_only fields o h =
    let p = and_then_some (cut fields) (λ f. option_and_then (λ name. option_and_then (output_of name) (unescaped f.1)) (unescaped f.0)) o h in
    let g = p.0 in
    let q = and_then_some (unescaped g.0) (λ name. option_and_then (output_of name) (unescaped g.1)) o p.2 in
    let r = and_then_some (unescaped g.1) (output_of q.0) o q.2 in
    let s = cond_some (is_path q.0 && is_path r.0) (Some (record { name = q.0; template = r.0 })) o r.2 in
    let made : record { name = q.0; template = r.0 } ≡ o = some_is (record { name = q.0; template = r.0 }) o s.1 in
    let first : g.0 ≡ escaped q.0 = escaped-unescaped g.0 q.0 q.1 in
    let second : g.1 ≡ escaped r.0 = escaped-unescaped g.1 r.0 r.1 in
    let is : IsOutput o = subst IsOutput made (first_of _ _ s.0, second_of (is_path q.0) _ s.0) in
    (is, cut_only fields g p.1 ∙ ap (λ t. t ++ 32 ∷ g.1) first ∙ ap (λ t. escaped q.0 ++ 32 ∷ t) second ∙ ap output_fields made)
