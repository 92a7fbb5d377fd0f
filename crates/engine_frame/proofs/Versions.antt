-- The line of the version, statement by statement.
use Rattle.std.proofs.Common.{◌≡◌, ℕ, ◌+◌, ◌<◌, ◌≤◌, List, [], length, drop, get_or, Option, Some, None, refl, sym, ap, ◌∙◌}
use Rattle.std.specs.Prelude.{unwrap_or}
use Rattle.std.proofs.lemmas.List.{drop_more}
use Rattle.std.proofs.Math.ListN.{drop_of_length-le}
use Rattle.ac_tree.specs.declared.tree.Stmt.{Stmt}
use Rattle.ac_tree.specs.declared.tree.Stmt.TheVariants.{Do, Choose', CacheCheck'}
use Rattle.ac_tree.specs.Script.{Script, script_of, stmt_then}
use Rattle.engine_frame.specs.Shown.{line_of, statement_line, version_line}

then_line : (s : Stmt) (rest : Script) → version_line (stmt_then s rest) ≡ unwrap_or (statement_line s) (version_line rest)
then_line (Do declares effect) rest = refl
then_line (Choose' declares subject m cases) rest = refl
then_line (CacheCheck' message name m commands) rest = refl

at_line : (xs : List Stmt) (i : ℕ) (s : Stmt) → i < length xs → s ≡ get_or xs i s → version_line (script_of (drop i xs)) ≡ unwrap_or (statement_line s) (version_line (script_of (drop (i + 1) xs)))
at_line xs i s lt is =
    ap (λ l. version_line (script_of l)) (drop_more xs i s lt) ∙ then_line (get_or xs i s) (script_of (drop (i + 1) xs))
    ∙ ap (λ (s : Stmt). unwrap_or (statement_line s) (version_line (script_of (drop (i + 1) xs)))) (sym is)

pub line_found : (xs : List Stmt) (i : ℕ) (s : Stmt) (line : List ℕ) (total : List ℕ) → i < length xs → s ≡ get_or xs i s → Some line ≡ statement_line s → version_line (script_of (drop i xs)) ≡ total → line ≡ total
line_found xs i s line total lt is found h =
    ap (λ o. unwrap_or o (version_line (script_of (drop (i + 1) xs)))) found ∙ sym (at_line xs i s lt is) ∙ h

pub line_more : (xs : List Stmt) (i : ℕ) (s : Stmt) (total : List ℕ) → i < length xs → s ≡ get_or xs i s → None ≡ statement_line s → version_line (script_of (drop i xs)) ≡ total
    → version_line (script_of (drop (i + 1) xs)) ≡ total
line_more xs i s total lt is none h =
    ap (λ o. unwrap_or o (version_line (script_of (drop (i + 1) xs)))) none ∙ sym (at_line xs i s lt is) ∙ h

pub no_more_lines : (xs : List Stmt) (i : ℕ) (total : List ℕ) → length xs ≤ i → version_line (script_of (drop i xs)) ≡ total → line_of [] [] ≡ total
no_more_lines xs i total le h = sym (ap (λ l. version_line (script_of l)) (drop_of_length-le xs le)) ∙ h
