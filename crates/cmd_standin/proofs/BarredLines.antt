-- No line of the list occurs in the conftest, as far as a search has come.
use Rattle.std.proofs.Common.{◌≡◌, ℕ, ◌<◌, ◌≤◌, Bool, true, false, List, [], map, length, get_or, Bor, refl, sym, ap, subst, ◌∙◌, arith}
use Rattle.std.specs.Bool.{IsTrue}
use Rattle.std.proofs.Math.ListN.{get_or-map}
use Rattle.std.proofs.lemmas.List.{length-map, get_or_default}
use Rattle.std.specs.Prelude.{◌⊎◌, Result, Ok, Err, Option, Some, IfOk}
use Rattle.std.proofs.Common.{inl, inr}
use Rattle.file_disk.specs.Known.{Known}
use Rattle.cmd_standin.specs.Standin.{IsBarred, IsFirstBarred, HasNoBarred, Answers, IsAnswered, ReadsConftest, ReadsText, lines_of, list_name, conftest_name, is_meeting, waiting, barred, passed, met, waited}

not_true : (b : Bool) → b ≡ false → IsTrue b → ⊥
not_true b is t = cc

-- The line at the offset isn't barred, if the test says so.
pub not_here : (conftest : List ℕ) (lines : List (Bor (List ℕ))) (i : ℕ) (b : Bool) → (IsBarred conftest (get_or lines i (record { ref_ptr = (0, 0); now = [] })).now → IsTrue b) → b ≡ false → IsBarred conftest (get_or (map (λ line. line.now) lines) i []) → ⊥
not_here conftest lines i b test is stands =
    not_true b is (test (subst (IsBarred conftest) (get_or-map (λ line. line.now) lines i (record { ref_ptr = (0, 0); now = [] })) stands))

-- No line was barred up to the end.
pub none_barred : (list conftest : List ℕ) (items lines : List (Bor (List ℕ))) (i : ℕ) → map (λ line. line.now) lines ≡ lines_of list → items ≡ lines → length items ≤ i
    → ((k : ℕ) → k < i → IsBarred conftest (get_or (map (λ line. line.now) items) k []) → ⊥) → HasNoBarred list conftest
none_barred list conftest items lines i are same past none k d inside stands =
    let whole : map (λ line. line.now) items ≡ lines_of list = ap (map (λ line. line.now)) same ∙ are in
    let count : length (lines_of list) ≡ length items = sym (ap length whole) ∙ length-map items (λ line. line.now) in
    none k (omega (arith, count)) (subst (IsBarred conftest) (get_or_default (lines_of list) k d [] inside ∙ ap (λ l. get_or l k []) (sym whole)) stands)

-- ---- the status

pub met_status : {E : Type 0} (files : Option Known) (words : List (List ℕ)) (list : List ℕ) (name : Option (List ℕ)) (r : Result ℕ E) → ReadsText files list_name list → is_meeting list ≡ true → name ≡ conftest_name words
    → IfOk r (λ s. (s ≡ 0) ⊎ (s ≡ 1)) → IfOk r (λ s. s ≡ 1 → name ≡ Some waiting) → IfOk r (IsAnswered files words)
met_status files words list name (Ok s) read meeting is cases waits = record {
  list = list;
  read = read;
  answers = elim cases [
    | inl zero ↦ subst (Answers files words list) (sym zero) (met meeting)
    | inr one ↦ subst (Answers files words list) (sym one) (waited meeting (sym is ∙ waits one))
  ];
}
met_status files words list name (Err e) read meeting is cases waits = tt

pub judged_status : {E : Type 0} (files : Option Known) (words : List (List ℕ)) (list conftest : List ℕ) (name : Option (List ℕ)) (r : Result ℕ E) → ReadsText files list_name list → is_meeting list ≡ false → name ≡ conftest_name words → ReadsConftest files name conftest
    → IfOk r (λ s. s ≡ 1 → (line : List ℕ) × IsFirstBarred list conftest line) → IfOk r (λ s. s ≡ 0 → HasNoBarred list conftest) → IfOk r (λ s. (s ≡ 0) ⊎ (s ≡ 1)) → IfOk r (IsAnswered files words)
judged_status files words list conftest name (Ok s) read plain is text refuses accepts cases =
    let named : ReadsConftest files (conftest_name words) conftest = subst (λ n. ReadsConftest files n conftest) is text in
    record {
      list = list;
      read = read;
      answers = elim cases [
        | inl zero ↦ subst (Answers files words list) (sym zero) (passed conftest plain named (accepts zero))
        | inr one ↦ let refused = refuses one in subst (Answers files words list) (sym one) (barred conftest refused.0 plain named refused.1)
      ];
    }
judged_status files words list conftest name (Err e) read plain is text refuses accepts cases = tt
