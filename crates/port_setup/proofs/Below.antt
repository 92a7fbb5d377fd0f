-- What is put after AC_PROG_CC, from its parts.
use Rattle.std.proofs.Common.{◌≡◌, ℕ, List, true, Result, Ok, Err, subst}
use Rattle.std.specs.Prelude.{IfOk, codes}
use Rattle.std.specs.List.{list_all}
use Rattle.port_spots.specs.Put.{is_space_or_return}
use Rattle.port_passes.specs.Rewritten.{SetsUp}
use Rattle.port_passes.specs.Compiler.{IsBelowCompiler, lines_below, flags_said, flags_text, headers_said, headers_text, standard_said, standard_text}

pub flags : {V E : Type 0} (items : V → List ℕ) (r : Result V E) (indent said text : List ℕ) → said ≡ flags_said → text ≡ flags_text → list_all is_space_or_return indent ≡ true
    → IfOk r (λ v. items v ≡ lines_below indent (codes "CFLAGS") said text) → IfOk r (λ v. SetsUp (items v))
flags items (Ok v) indent said text is_said is_text blank is =
    SetsUp.more (IsBelowCompiler.flags indent blank
    (subst (λ t. items v ≡ lines_below indent (codes "CFLAGS") flags_said t) is_text (subst (λ s. items v ≡ lines_below indent (codes "CFLAGS") s text) is_said is)))
flags items (Err e) indent said text is_said is_text blank is = tt

pub headers : {V E : Type 0} (items : V → List ℕ) (r : Result V E) (indent said text : List ℕ) → said ≡ headers_said → text ≡ headers_text → list_all is_space_or_return indent ≡ true
    → IfOk r (λ v. items v ≡ lines_below indent (codes "AC_INCLUDES_DEFAULT") said text) → IfOk r (λ v. SetsUp (items v))
headers items (Ok v) indent said text is_said is_text blank is =
    SetsUp.more (IsBelowCompiler.headers indent blank
    (subst (λ t. items v ≡ lines_below indent (codes "AC_INCLUDES_DEFAULT") headers_said t) is_text (subst (λ s. items v ≡ lines_below indent (codes "AC_INCLUDES_DEFAULT") s text) is_said is)))
headers items (Err e) indent said text is_said is_text blank is = tt

pub standard : {V E : Type 0} (items : V → List ℕ) (r : Result V E) (indent said text : List ℕ) → said ≡ standard_said → text ≡ standard_text → list_all is_space_or_return indent ≡ true
    → IfOk r (λ v. items v ≡ lines_below indent (codes "STDC_HEADERS") said text) → IfOk r (λ v. SetsUp (items v))
standard items (Ok v) indent said text is_said is_text blank is =
    SetsUp.more (IsBelowCompiler.standard indent blank
    (subst (λ t. items v ≡ lines_below indent (codes "STDC_HEADERS") standard_said t) is_text (subst (λ s. items v ≡ lines_below indent (codes "STDC_HEADERS") s text) is_said is)))
standard items (Err e) indent said text is_said is_text blank is = tt
