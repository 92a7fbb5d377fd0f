-- What is read of a log that a run wrote.
use Rattle.std.proofs.Common.{◌≡◌, ◌≢◌, ◌⊎◌, ◌+◌, ◌<◌, ◌≤◌, ◌==◌, ◌^◌, ◌&&◌, ◌||◌, ℕ, zero, suc, Bool, true, false, not, cond, List, [], ◌∷◌, ◌++◌, Option, Some, None, length, length-append, refl, sym, ap, subst, ◌∙◌, arith, inl, inr, ⊎_elim, codes, decimal, nat_eq, nat_lt, nat_le, map, flat_map, append_assoc, append-nil, if◌then◌else◌, rules}
use Rattle.std.proofs.lemmas.Bool.{cases_Bool, cond-true, cond-false, eq-eqb, ne_eqb, lt-ltb, le-leb}
use Rattle.std.proofs.lemmas.Fmt.{decimal_is_IsNumeral, decimal_nonempty}
use Rattle.std.proofs.lemmas.Str.Parse.{digit_from_value}
use Rattle.std.specs.Str.Parse.{AllDigits}
use Rattle.std.specs.List.{list_all, ends_with}
use Rattle.bstr.specs.Text.{lines_from, lines_of}
use Rattle.cfglog.specs.Texts.{closed, written, command_line, failed_program, program_after, reply_text, entry_text, log_of}
use Rattle.crew_trait.specs.declared.entry.Entry.{Entry}
use Rattle.crew_trait.specs.declared.entry.Entry.TheVariants.{Said, Child}
use Rattle.crew_trait.specs.declared.reply.Reply.{Reply}
use Rattle.crew_trait.specs.declared.reply.Reply.TheVariants.{Answer, StartRefused, EndRefused}
use Rattle.cfglog.specs.declared.forms.LineKind.{LineKind}
use Rattle.cfglog.specs.declared.forms.LineKind.TheVariants.{Message, Command, Diagnostics, Status, Refused, Heading, Program}
use Rattle.cfglog.specs.Log.{is_number_byte, has_number, is_status, is_refusal, is_command, is_heading, is_program, is_inside, inside, outside, part_after, marked, last_part, lines_in, is_log}
use Rattle.cfglog.specs.Written.{status_line, program_line, seen_program, seen_reply, seen, IsPlainMessage, IsPlainDiagnostics, EachLine, IsPlainReply, IsPlain, ArePlain}
use Rattle.cfglog.proofs.Marks.{marked_append, last_append}
use Rattle.cfglog.proofs.OneLine.{IsFlat, IsClosed, flat_append, flat_digits, one_line, lines_after, closed_append}
use Rattle.cfglog.proofs.Programs.{closed_closed, ends_made, lines_are_lines, program_closed, program_lines}

-- ---- where a text may begin and end

abbrev is_open : LineKind → Bool
is_open part = not (is_inside part)

abbrev is_status_part : LineKind → Bool
is_status_part Status = true
is_status_part part = false

abbrev is_program_part : LineKind → Bool
is_program_part Heading = true
is_program_part Program = true
is_program_part part = false

status_open : (part : LineKind) → is_status_part part ≡ true → is_open part ≡ true
status_open Status h = refl
status_open _ h = absurd (let e : false ≡ true = h in cc)

program_open : (part : LineKind) → is_program_part part ≡ true → is_open part ≡ true
program_open Heading h = refl
program_open Program h = refl
program_open _ h = absurd (let e : false ≡ true = h in cc)

-- ---- texts that are read from some part on, and end in another

record Reads (J K : LineKind → Bool) (text : List ℕ) (parts : List (LineKind × List ℕ)) : Type 0 where
  whole : IsClosed text
  lines : (part : LineKind) → J part ≡ true → marked part (lines_of text) ≡ parts
  ends : (part : LineKind) → J part ≡ true → K (last_part part (lines_of text)) ≡ true

joined : (J K L : LineKind → Bool) (a b : List ℕ) (x y : List (LineKind × List ℕ)) → Reads J K a x → Reads K L b y → Reads J L (a ++ b) (x ++ y)
joined J K L a b x y ra rb = record {
  whole = closed_append a b ra.whole rb.whole;
  lines = λ part h.
      ap (marked part) (lines_after a b ra.whole) ∙ marked_append part (lines_of a) (lines_of b)
      ∙ ap (λ t. t ++ marked (last_part part (lines_of a)) (lines_of b)) (ra.lines part h)
      ∙ ap (λ t. x ++ t) (rb.lines (last_part part (lines_of a)) (ra.ends part h));
  ends = λ part h.
      ap L (ap (last_part part) (lines_after a b ra.whole) ∙ last_append part (lines_of a) (lines_of b))
      ∙ rb.ends (last_part part (lines_of a)) (ra.ends part h);
}

wider : (J K L : LineKind → Bool) (text : List ℕ) (parts : List (LineKind × List ℕ)) → ((part : LineKind) → K part ≡ true → L part ≡ true) → Reads J K text parts → Reads J L text parts
wider J K L text parts more r = record {
  whole = r.whole;
  lines = r.lines;
  ends = λ part h. more (last_part part (lines_of text)) (r.ends part h);
}

none_read : (J : LineKind → Bool) → Reads J J [] []
unfolding marked last_part lines_from
none_read J = record {
  whole = inl refl;
  lines = λ part h. refl;
  ends = λ part h. h;
}

-- one line
single : (J K : LineKind → Bool) (xs : List ℕ) (to : LineKind) → lines_of (xs ++ 10 ∷ []) ≡ (xs ++ 10 ∷ []) ∷ []
    → ((part : LineKind) → J part ≡ true → part_after part (xs ++ 10 ∷ []) ≡ to) → K to ≡ true
    → Reads J K (xs ++ 10 ∷ []) ((to, xs ++ 10 ∷ []) ∷ [])
unfolding marked last_part
single J K xs to one after ends = record {
  whole = inr (xs, refl);
  lines = λ part h. ap (marked part) one ∙ ap (λ q. (q, xs ++ 10 ∷ []) ∷ []) (after part h);
  ends = λ part h. ap (λ ls. K (last_part part ls)) one ∙ ap K (after part h) ∙ ends;
}

-- lines that are all one part
each_marked : (J : LineKind → Bool) (P : List ℕ → Type 0) (to : LineKind) → J to ≡ true
    → ((part : LineKind) (line : List ℕ) → J part ≡ true → P line → part_after part line ≡ to)
    → (ls : List (List ℕ)) → EachLine P ls → (part : LineKind) → J part ≡ true → marked part ls ≡ map (λ line. (to, line)) ls
unfolding marked
each_marked J P to own after [] hs part h = refl
each_marked J P to own after (l ∷ ls) hs part h =
    ap (λ q. (q, l) ∷ marked q ls) (after part l h hs.0) ∙ ap (λ t. (to, l) ∷ t) (each_marked J P to own after ls hs.1 to own)

each_ends : (J : LineKind → Bool) (P : List ℕ → Type 0) (to : LineKind) → J to ≡ true
    → ((part : LineKind) (line : List ℕ) → J part ≡ true → P line → part_after part line ≡ to)
    → (ls : List (List ℕ)) → EachLine P ls → (part : LineKind) → J part ≡ true → J (last_part part ls) ≡ true
unfolding last_part
each_ends J P to own after [] hs part h = h
each_ends J P to own after (l ∷ ls) hs part h =
    ap (λ q. J (last_part q ls)) (after part l h hs.0) ∙ each_ends J P to own after ls hs.1 to own

each_read : (J : LineKind → Bool) (P : List ℕ → Type 0) (to : LineKind) → J to ≡ true
    → ((part : LineKind) (line : List ℕ) → J part ≡ true → P line → part_after part line ≡ to)
    → (text : List ℕ) → IsClosed text → EachLine P (lines_of text) → Reads J J text (map (λ line. (to, line)) (lines_of text))
each_read J P to own after text whole hs = record {
  whole = whole;
  lines = λ part h. each_marked J P to own after (lines_of text) hs part h;
  ends = λ part h. each_ends J P to own after (lines_of text) hs part h;
}

-- ---- what a line is

message_after : (part : LineKind) (line : List ℕ) → is_open part ≡ true → IsPlainMessage line → part_after part line ≡ Message
unfolding part_after
message_after Message line h p = cond-false _ _ _ p.0
message_after Refused line h p = cond-false _ _ _ p.0
message_after Status line h p = cond-false _ _ _ p.1 ∙ cond-false _ _ _ p.0
message_after Heading line h p = cond-false _ _ _ p.2 ∙ cond-false _ _ _ p.0
message_after Program line h p = cond-false _ _ _ p.2 ∙ cond-false _ _ _ p.0
message_after _ line h p = absurd (let e : false ≡ true = h in cc)

command_after : (part : LineKind) (rest : List ℕ) → is_open part ≡ true → part_after part (36 ∷ rest) ≡ Command
unfolding part_after
command_after Command rest h = absurd (let e : false ≡ true = h in cc)
command_after Diagnostics rest h = absurd (let e : false ≡ true = h in cc)
command_after _ rest h = refl

inside_after : (part : LineKind) (line : List ℕ) → is_inside part ≡ true → part_after part line ≡ inside line
unfolding part_after
inside_after Command line h = refl
inside_after Diagnostics line h = refl
inside_after _ line h = absurd (let e : false ≡ true = h in cc)

diagnostics_after : (part : LineKind) (line : List ℕ) → is_inside part ≡ true → IsPlainDiagnostics line → part_after part line ≡ Diagnostics
diagnostics_after part line h p = inside_after part line h ∙ cond-false _ _ _ p.0 ∙ cond-false _ _ _ p.1

program_after_part : (part : LineKind) (rest : List ℕ) → is_program_part part ≡ true → part_after part (codes "| " ++ rest) ≡ Program
unfolding part_after
program_after_part Heading rest h = refl
program_after_part Program rest h = refl
program_after_part _ rest h = absurd (let e : false ≡ true = h in cc)

heading_after : (part : LineKind) → is_status_part part ≡ true → part_after part (codes "failed program was:\n") ≡ Heading
unfolding part_after
heading_after Status h = refl
heading_after _ h = absurd (let e : false ≡ true = h in cc)

-- ---- the line of a status

number_byte : (c : ℕ) → (48 ≤ c) → (c ≤ 57) → is_number_byte c ≡ true
number_byte c low high =
    let other : (c == 10) ≡ false = ne_eqb c 10 (λ e. absurd (omega arith)) in
    rw (other, le-leb 48 c low, le-leb c 57 high) refl

number_bytes : (ds : List ℕ) → AllDigits 10 ds → list_all is_number_byte (ds ++ 10 ∷ []) ≡ true
number_bytes [] h = refl
number_bytes (c ∷ cs) h =
    let range = digit_from_value c h.0 in
    ap (λ t. t && list_all is_number_byte (cs ++ 10 ∷ [])) (number_byte c range.0 range.1) ∙ number_bytes cs h.1

is_status_line : (n : ℕ) → n < 2 ^ 64 → is_status (status_line n) ≡ true
is_status_line n h =
    let long : 8 < length (status_line n) = omega (arith, decimal_nonempty n h, length-append (decimal n) (codes "\n")) in
    ap (λ t. t && list_all is_number_byte (decimal n ++ 10 ∷ [])) (lt-ltb 8 (length (status_line n)) long)
    ∙ number_bytes (decimal n) (decimal_is_IsNumeral n h).0.1

status_front : (n : ℕ) → status_line n ≡ (codes "status " ++ decimal n) ++ 10 ∷ []
status_front n = sym (append_assoc (codes "status ") (decimal n) (10 ∷ []))

status_flat : (n : ℕ) → n < 2 ^ 64 → IsFlat (codes "status " ++ decimal n)
status_flat n h = (refl, (refl, (refl, (refl, (refl, (refl, (refl, flat_digits (decimal n) (decimal_is_IsNumeral n h).0.1)))))))

status_after : (part : LineKind) (n : ℕ) → n < 2 ^ 64 → is_inside part ≡ true → part_after part (status_line n) ≡ Status
status_after part n h inner = inside_after part (status_line n) inner ∙ cond-true _ _ _ (is_status_line n h)

read_status : (n : ℕ) → n < 2 ^ 64 → Reads is_inside is_status_part (status_line n) ((Status, status_line n) ∷ [])
read_status n h = subst (λ t. Reads is_inside is_status_part t ((Status, t) ∷ [])) (sym (status_front n))
    (single is_inside is_status_part (codes "status " ++ decimal n) Status (one_line (codes "status " ++ decimal n) (status_flat n h))
    (λ part inner. subst (λ t. part_after part t ≡ Status) (status_front n) (status_after part n h inner)) refl)

-- ---- the program that failed

read_heading : Reads is_status_part is_program_part (codes "failed program was:\n") ((Heading, codes "failed program was:\n") ∷ [])
read_heading = single is_status_part is_program_part (codes "failed program was:") Heading (one_line (codes "failed program was:") (search rules)) heading_after refl

abbrev IsProgramLine : List ℕ → Type 0
IsProgramLine line = (rest : List ℕ) × (line ≡ codes "| " ++ rest)

program_line_after : (part : LineKind) (line : List ℕ) → is_program_part part ≡ true → IsProgramLine line → part_after part line ≡ Program
program_line_after part line h p = ap (part_after part) p.1 ∙ program_after_part part p.0 h

each_program_line : (ls : List (List ℕ)) → EachLine IsProgramLine (map program_line ls)
each_program_line [] = tt
each_program_line (l ∷ ls) = ((closed l, refl), each_program_line ls)

program_parts : (ls : List (List ℕ))
    → map {B = LineKind × List ℕ} (λ line. (Program, line)) (map program_line ls) ≡ map {B = LineKind × List ℕ} (λ line. (Program, program_line line)) ls
program_parts [] = refl
program_parts (l ∷ ls) = ap (λ t. (Program, program_line l) ∷ t) (program_parts ls)

read_lines : (program : List ℕ)
    → Reads is_program_part is_program_part (flat_map program_line (lines_of program)) (map (λ line. (Program, program_line line)) (lines_of program))
read_lines program =
    let ls = lines_of program in
    let same = program_lines ls (lines_are_lines program) in
    subst (Reads is_program_part is_program_part (flat_map program_line ls))
    (ap (map {B = LineKind × List ℕ} (λ line. (Program, line))) same ∙ program_parts ls)
    (each_read is_program_part IsProgramLine Program refl program_line_after (flat_map program_line ls) (program_closed ls (lines_are_lines program))
    (subst (EachLine IsProgramLine) (sym same) (each_program_line ls)))

read_failed : (program : List ℕ)
    → Reads is_status_part is_open (failed_program program) ((Heading, codes "failed program was:\n") ∷ map (λ line. (Program, program_line line)) (lines_of program))
read_failed program = wider is_status_part is_program_part is_open _ _ program_open
    (joined is_status_part is_program_part is_program_part _ _ _ _ read_heading (read_lines program))

read_program : (status : ℕ) (file : Option (List ℕ × List ℕ)) → Reads is_status_part is_open (program_after status file) (seen_program status file)
read_program status None = wider is_status_part is_status_part is_open _ _ status_open (none_read is_status_part)
read_program status (Some file) = ⊎_elim
    (λ yes. subst (Reads is_status_part is_open (program_after status (Some file))) (sym (cond-true _ _ _ yes))
    (subst (λ t. Reads is_status_part is_open t []) (sym (cond-true _ _ _ yes)) (wider is_status_part is_status_part is_open _ _ status_open (none_read is_status_part))))
    (λ no. subst (Reads is_status_part is_open (program_after status (Some file))) (sym (cond-false _ _ _ no))
    (subst (λ t. Reads is_status_part is_open t ((Heading, codes "failed program was:\n") ∷ map (λ line. (Program, program_line line)) (lines_of file.1))) (sym (cond-false _ _ _ no)) (read_failed file.1)))
    (cases_Bool (status == 0))

-- ---- a child

answer_text : (d p : List ℕ) (n : ℕ) → d ++ (status_line n ++ p) ≡ d ++ (codes "status " ++ (decimal n ++ (codes "\n" ++ p)))
answer_text d p n = ap (λ t. d ++ t) (append_assoc (codes "status ") (decimal n ++ codes "\n") p ∙ ap (λ t. codes "status " ++ t) (append_assoc (decimal n) (codes "\n") p))

read_answer : (file : Option (List ℕ × List ℕ)) (status : ℕ) (diagnostics : List ℕ) → IsPlainReply (Answer status diagnostics)
    → Reads is_inside is_open (reply_text file (Answer status diagnostics)) (seen_reply file (Answer status diagnostics))
read_answer file status diagnostics plain =
    subst (λ t. Reads is_inside is_open t (seen_reply file (Answer status diagnostics))) (answer_text (closed diagnostics) (program_after status file) status)
    (joined is_inside is_inside is_open _ _ _ _
    (each_read is_inside IsPlainDiagnostics Diagnostics refl diagnostics_after (closed diagnostics) (closed_closed diagnostics) plain.0)
    (joined is_inside is_status_part is_open _ _ _ _ (read_status status plain.1) (read_program status file)))

read_start : Reads is_inside is_open (codes "start refused\n") ((Refused, codes "start refused\n") ∷ [])
read_start = single is_inside is_open (codes "start refused") Refused (one_line (codes "start refused") (search rules))
    (λ part h. inside_after part (codes "start refused\n") h) refl

read_end : Reads is_inside is_open (codes "wait refused\n") ((Refused, codes "wait refused\n") ∷ [])
read_end = single is_inside is_open (codes "wait refused") Refused (one_line (codes "wait refused") (search rules))
    (λ part h. inside_after part (codes "wait refused\n") h) refl

read_reply : (file : Option (List ℕ × List ℕ)) (reply : Reply) → IsPlainReply reply → Reads is_inside is_open (reply_text file reply) (seen_reply file reply)
read_reply file (Answer status diagnostics) plain = read_answer file status diagnostics plain
read_reply file StartRefused plain = read_start
read_reply file EndRefused plain = read_end

abbrev words_text : List (List ℕ) → List ℕ
words_text words = flat_map (λ word. codes " " ++ written word) words

command_front : (words : List (List ℕ)) → command_line words ≡ (codes "$" ++ words_text words) ++ 10 ∷ []
command_front words = sym (append_assoc (codes "$") (words_text words) (10 ∷ []))

read_command : (words : List (List ℕ)) → lines_of (command_line words) ≡ command_line words ∷ []
    → Reads is_open is_inside (command_line words) ((Command, command_line words) ∷ [])
read_command words one = subst (λ t. Reads is_open is_inside t ((Command, t) ∷ [])) (sym (command_front words))
    (single is_open is_inside (codes "$" ++ words_text words) Command (subst (λ t. lines_of t ≡ t ∷ []) (command_front words) one)
    (λ part h. command_after part (words_text words ++ 10 ∷ []) h) refl)

-- ---- a log

read_entry : (entry : Entry) → IsPlain entry → Reads is_open is_open (entry_text entry) (seen entry)
read_entry (Said note) plain = each_read is_open IsPlainMessage Message refl message_after (closed note.text) (closed_closed note.text) plain
read_entry (Child job reply) plain = joined is_open is_inside is_open _ _ _ _ (read_command job.words plain.0) (read_reply job.file reply plain.1)

read_entries : (entries : List Entry) → ArePlain entries → Reads is_open is_open (log_of entries) (flat_map seen entries)
read_entries [] plain = none_read is_open
read_entries (entry ∷ rest) plain = joined is_open is_open is_open _ _ _ _ (read_entry entry plain.0) (read_entries rest plain.1)

pub entries_read : (entries : List Entry) → ArePlain entries → lines_in (log_of entries) ≡ flat_map seen entries
entries_read entries plain = (read_entries entries plain).lines Message refl

closed_test : (text : List ℕ) → IsClosed text → (length text == 0 || ends_with nat_eq text (codes "\n")) ≡ true
closed_test text h = ⊎_elim
    (λ none. subst (λ t. (length t == 0 || ends_with nat_eq t (codes "\n")) ≡ true) (sym none) refl)
    (λ some. subst (λ t. (length t == 0 || ends_with nat_eq t (codes "\n")) ≡ true) (sym some.1) (or_true (length (some.0 ++ 10 ∷ []) == 0) (ends_made some.0)))
    h where
      or_true : (b : Bool) {c : Bool} → c ≡ true → (b || c) ≡ true
      or_true true h = refl
      or_true false h = h

pub entries_log : (entries : List Entry) → ArePlain entries → is_log (log_of entries) ≡ true
entries_log entries plain =
    let read = read_entries entries plain in
    ap (λ t. t && not (is_inside (last_part Message (lines_of (log_of entries))))) (closed_test (log_of entries) read.whole)
    ∙ read.ends Message refl
