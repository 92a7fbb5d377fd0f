-- A source that was read.
use Rattle.std.proofs.Common.{◌≡◌, ℕ, List, ◌∷◌, ◌++◌, Option, Some, refl, sym, subst, ap, ◌∙◌}
use Rattle.std.specs.Prelude.{codes}
use Rattle.options_line.specs.Srcdir.{srcdir_of}
use Rattle.file_disk.specs.Known.{Known}
use Rattle.cmd_configure.specs.Configures.{ReadsSource}
use Rattle.cmd_call.specs.Supplies.{ReadsLimited, path_of}

-- A source that was read is handed on.
pub source_by : {D : Type 0} (known : D → Option Known) (d lent : D) (arguments handed : List (List ℕ)) (srcdir path name : List ℕ) (read : Option (List ℕ)) (text slice source : List ℕ)
    → lent ≡ d → name ≡ path → path ≡ srcdir ++ 47 ∷ codes "configure.ac" → srcdir ≡ srcdir_of arguments → handed ≡ arguments → read ≡ Some text → slice ≡ text → source ≡ slice
    → ReadsLimited (known lent) name read → ReadsSource (known d) handed source
source_by known d lent arguments handed srcdir path name read text slice source same name_is path_is srcdir_is handed_are is slice_is source_is h =
    let place : List (List ℕ) → List ℕ = λ args. path_of (srcdir_of args) (codes "configure.ac") in
    let at : name ≡ place handed = name_is ∙ path_is ∙ ap (λ s. path_of s (codes "configure.ac")) srcdir_is ∙ ap place (sym handed_are) in
    let whole : Some source ≡ read = ap (λ (t : List ℕ). Some t) (source_is ∙ slice_is) ∙ sym is in
    subst (λ x. ReadsLimited (known x) (place handed) (Some source)) same
    (subst (λ n. ReadsLimited (known lent) n (Some source)) at (subst (λ o. ReadsLimited (known lent) name o) (sym whole) h))
