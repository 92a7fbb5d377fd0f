-- What is written for a word, and its status.
use Rattle.std.proofs.Common.{◌≡◌, ◌≢◌, ℕ, true, List, map, Option, Some, ap, subst, sym, ◌∙◌}
use Rattle.std.specs.Prelude.{codes, IfOk, Result, Ok, Err}
use Rattle.std.specs.Io.KnownBytes.{Appends}
use Rattle.file_disk.specs.Known.{Known}
use Rattle.cmd_call.specs.Supplies.{ReadsWhole}
use Rattle.cmd_why.specs.Lines.{Line, checks, is_run}
use Rattle.cmd_why.specs.Shown.{printed, status_of}
use Rattle.cmd_why.specs.Views.{check_seen}
use Rattle.cmd_why.specs.declared.lines.Check.{Check}
use Rattle.cmd_why.specs.Why.{IsAnswer, IsInLog, IsLineIn, IsOfLog, IsOfRecord}
use Rattle.cmd_why.specs.Sources.{IsSeen, IsSeenFor, IsSeenIn}
use Rattle.cmd_why.specs.declared.seen.Seen.{Seen}

pub written : (seen : Seen) (text word out slice : List ℕ) (status result : ℕ) (a b : Option (List ℕ)) → slice ≡ out → IsInLog seen text word out status
    → (result ≢ 2 → result ≡ status) → (result ≢ 2 → Appends a b slice)
    → result ≢ 2 → (o : List ℕ) × IsInLog seen text word o result × Appends a b o
written seen text word out slice status result a b lent in_log same put ne =
    (out, subst (λ s. IsInLog seen text word out s) (sym (same ne)) in_log, subst (λ t. Appends a b t) lent (put ne))

pub line_written : (text out slice : List ℕ) (status result : ℕ) (a b : Option (List ℕ)) → slice ≡ out → IsLineIn text out → status ≡ 0
    → (result ≢ 2 → result ≡ status) → (result ≢ 2 → Appends a b slice)
    → result ≢ 2 → (o : List ℕ) × IsLineIn text o × (result ≡ 0) × Appends a b o
line_written text out slice status result a b lent of_text zero same put ne =
    (out, of_text, subst (λ s. result ≡ s) zero (same ne), subst (λ t. Appends a b t) lent (put ne))

pub recorded : (files : Option Known) (text slice : List ℕ) (status : ℕ) (a b : Option (List ℕ)) → slice ≡ text
    → ReadsWhole files (codes "config.status") (Some text)
    → (status ≢ 2 → (o : List ℕ) × IsLineIn slice o × (status ≡ 0) × Appends a b o)
    → status ≢ 2 → (o : List ℕ) × IsOfRecord files o status × Appends a b o
recorded files text slice status a b lent read gives ne =
    let g = gives ne in
    let written_line : IsLineIn text g.0 = subst (λ t. IsLineIn t g.0) lent g.1 in
    (g.0, record { text = text; read = read; line = written_line; status_is = g.2 }, g.3)

pub explained : (files : Option Known) (name word text : List ℕ) (status : ℕ) (a b : Option (List ℕ)) → ReadsWhole files name (Some text)
    → (status ≢ 2 → (seen : Seen) × IsSeenFor files name seen × ((o : List ℕ) × IsInLog seen text word o status × Appends a b o))
    → status ≢ 2 → (o : List ℕ) × IsOfLog files name word o status × Appends a b o
explained files name word text status a b read gives ne =
    let g = gives ne in (g.2.0, record { text = text; read = read; seen = g.0; is_seen = g.1; in_log = g.2.1 }, g.2.2)

pub by_seen : (files : Option Known) (name word text : List ℕ) (seen : Seen) (status : ℕ) (a b : Option (List ℕ)) → IsSeenFor files name seen
    → (status ≢ 2 → (o : List ℕ) × IsInLog seen text word o status × Appends a b o)
    → status ≢ 2 → (s : Seen) × IsSeenFor files name s × ((o : List ℕ) × IsInLog s text word o status × Appends a b o)
by_seen files name word text seen status a b is gives ne = (seen, is, gives ne)

pub looked : {E : Type 0} (files : Option Known) (text : List ℕ) (r : Result Seen E) → ReadsWhole files (codes "config.status") (Some text)
    → IfOk r (λ seen. IsSeenIn files text seen) → IfOk r (λ seen. IsSeen files seen)
looked files text (Ok seen) reads is = (Some text, reads, is)
looked files text (Err e) reads is = tt

pub answered : (seen : Seen) (word out : List ℕ) (lines : List Line) (items slice : List Check) (status : ℕ) → slice ≡ items → map check_seen items ≡ checks lines
    → is_run (map check_seen slice) lines ≡ true → out ≡ printed seen lines word (map check_seen slice) → status ≡ status_of word (map check_seen slice)
    → IsAnswer seen word lines out status
answered seen word out lines items slice status lent are run text_is status_is =
    let same : map check_seen slice ≡ checks lines = ap (λ list. map check_seen list) lent ∙ are in
    record {
      of_run = subst (λ list. is_run list lines ≡ true) same run;
      out_is = text_is ∙ ap (λ list. printed seen lines word list) same;
      status_is = status_is ∙ ap (λ list. status_of word list) same;
    }
