-- Warnings about parts, one part after the other, and names that templates list.
use Rattle.std.proofs.Common.{◌≡◌, ℕ, zero, suc, ◌+◌, List, [], ◌∷◌, ◌++◌, Option, Some, None, sym, subst, arith}
use Rattle.lint_findings.specs.declared.finding.Finding.{Finding}
use Rattle.lint_sources.specs.Names as names
use Rattle.lint_sources.specs.Names.{AreListedTo, IsListed, Lists}
use Rattle.lint_sources.specs.Sheets.{count_of, sheet_at}
use Rattle.lint_sources.specs.Warned as specs
use Rattle.lint_sources.specs.Warned.{AreAppended, AreFound, Finds, all_parts, parts_to}
use Rattle.lint_sources.specs.declared.sheets.Sheets.{Sheets}
use Rattle.lint_sources.specs.declared.warnings.Part.{Part}
use Rattle.lint_sources.specs.declared.warnings.Part.TheVariants.{Calls, Statements, Compiler, Outputs, Template, Unlisted}

pub one : (finds : Finds) (old new : List Finding) (part : Part) → AreAppended (finds part) old new → AreFound finds old (part ∷ []) new
one finds old new part added = specs.AreFound.next part new specs.AreFound.none added

-- Those before its templates
pub four : (finds : Finds) (old a b c new : List Finding) → AreAppended (finds Calls) old a → AreAppended (finds Statements) a b → AreAppended (finds Compiler) b c → AreAppended (finds Outputs) c new
    → AreFound finds old (parts_to 0) new
four finds old a b c new calls statements compiler outputs =
    specs.AreFound.next Outputs new (specs.AreFound.next Compiler c (specs.AreFound.next Statements b (one finds old a Calls calls) statements) compiler) outputs

-- One template more
pub one_template : (finds : Finds) (old mid new : List Finding) (i : ℕ) → AreFound finds old (parts_to i) mid → AreAppended (finds (Template (i + 1))) mid new → AreFound finds old (parts_to (i + 1)) new
one_template finds old mid new i before added =
    let next : suc i ≡ i + 1 = omega arith in
    subst (λ n. AreFound finds old (parts_to n) new) next (specs.AreFound.next (Template (suc i)) new before (subst (λ n. AreAppended (finds (Template n)) mid new) (sym next) added))

-- All of a source that is read
pub all_of : (finds : Finds) (old mid last new : List Finding) (sheets : Sheets) → AreFound finds old (parts_to 0) mid
    → ((first : List Finding) → AreFound finds first (parts_to 0) mid → AreFound finds first (parts_to (count_of sheets)) last)
    → AreAppended (finds Unlisted) last new → AreFound finds old (all_parts sheets) new
all_of finds old mid last new sheets front templates added = specs.AreFound.next Unlisted new (templates old front) added

-- The names of one template more
pub one_listed : (lists : Lists) (sheets : Sheets) (first i : ℕ) (old new : List (List ℕ)) → AreListedTo lists sheets first i old → IsListed lists (sheet_at sheets (i + 1)) old new
    → AreListedTo lists sheets first (i + 1) new
one_listed lists sheets first i old new before listed =
    let next : suc i ≡ i + 1 = omega arith in
    subst (λ n. AreListedTo lists sheets first n new) next (names.AreListedTo.next new before (subst (λ n. IsListed lists (sheet_at sheets n) old new) (sym next) listed))

-- Those of no template
pub none_listed : (lists : Lists) (sheets : Sheets) (first at : ℕ) (list : List (List ℕ)) → at ≡ first → list ≡ [] → AreListedTo lists sheets first at list
none_listed lists sheets first at list same empty =
    subst (λ n. AreListedTo lists sheets first n list) (sym same) (subst (λ l. AreListedTo lists sheets first first l) (sym empty) names.AreListedTo.none)
