-- The line of a child.
use Rattle.std.proofs.Common.{◌≡◌, ℕ, ◌+◌, ◌-◌, ◌<◌, ◌≤◌, List, [], ◌∷◌, ◌++◌, length, take, flat_map, get_or, sym, ap, ◌∙◌, refl, subst, cond, codes, Bool, true, false, arith, append_assoc, append-nil, length-append, take_all}
use Rattle.std.specs.Prelude.{decimal, nat_le}
use Rattle.std.proofs.lemmas.Bool.{le-leb, lt-leb, leb-true}
use Rattle.std.proofs.lemmas.Grind.{flat_map-append}
use Rattle.std.proofs.lemmas.List.{take_more}
use Rattle.crew_jobs.specs.declared.job.Job.{Job}
use Rattle.crew_progress.specs.Screen.{shown_byte, fitting, IsShowing}
use Rattle.crew_progress.specs.Subject.{subject_of_file, command_text, search_text, words_of}
use Rattle.crew_progress.specs.Child.{purpose, child_text, mark, row, child_line}
use Rattle.crew_progress.proofs.Cutting.{showing_is}

-- A line that is whole, and one that is cut.
pub whole_row : (line : List ℕ) (is_cut : Bool) (text result : List ℕ) → IsShowing 396 line is_cut text → is_cut ≡ false → result ≡ line ++ 10 ∷ [] → result ≡ row text
unfolding row mark
whole_row line is_cut text result h whole is =
    let le = h.fits in
    let test : nat_le (length (flat_map shown_byte text)) 396 ≡ true = le-leb (length (flat_map shown_byte text)) 396 (omega (arith, ap length (h.whole whole))) in
    is ∙ ap (λ l. l ++ 10 ∷ []) (showing_is 396 line is_cut text h) ∙ sym (ap (λ b. fitting 396 text ++ (cond b [] (codes "...") ++ 10 ∷ [])) test)

pub cut_row : (line : List ℕ) (is_cut : Bool) (text result : List ℕ) → IsShowing 396 line is_cut text → is_cut ≡ true → result ≡ line ++ codes "...\n" → result ≡ row text
unfolding row mark
cut_row line is_cut text result h cut is =
    let over = h.over cut in
    let test : nat_le (length (flat_map shown_byte text)) 396 ≡ false = lt-leb (length (flat_map shown_byte text)) 396 over in
    is ∙ ap (λ l. l ++ codes "...\n") (showing_is 396 line is_cut text h) ∙ sym (ap (λ b. fitting 396 text ++ (cond b [] (codes "...") ++ 10 ∷ [])) test)

-- What fits in so many columns has at most so many bytes.
by_room : (n b : ℕ) (rest : List ℕ) (room : Bool) → nat_le (length (shown_byte b)) n ≡ room → length rest ≤ n - length (shown_byte b) → length (cond room (shown_byte b ++ rest) []) ≤ n
by_room n b rest true is le = let fits = leb-true (length (shown_byte b)) n is in omega (arith, length-append (shown_byte b) rest)
by_room n b rest false is le = omega arith

fitting_short : (n : ℕ) (text : List ℕ) → length (fitting n text) ≤ n
fitting_short n [] = omega arith
fitting_short n (b ∷ bs) =
    by_room n b (fitting (n - length (shown_byte b)) bs) (nat_le (length (shown_byte b)) n) refl (fitting_short (n - length (shown_byte b)) bs)

short_mark : (is_whole : Bool) → length (cond is_whole [] (codes "...")) ≤ 3
short_mark true = omega arith
short_mark false = omega arith

short_row : (text : List ℕ) → length (row text) ≤ 400
unfolding row mark
short_row text =
    let shows : List ℕ = fitting 396 text in
    let marks : List ℕ = cond (nat_le (length (flat_map shown_byte text)) 396) [] (codes "...") in
    let first : length (row text) ≡ length shows + length (marks ++ 10 ∷ []) = length-append shows (marks ++ 10 ∷ []) in
    let second : length (marks ++ 10 ∷ []) ≡ length marks + 1 = length-append marks (10 ∷ []) in
    let some : length shows ≤ 396 = fitting_short 396 text in
    let few : length marks ≤ 3 = short_mark (nat_le (length (flat_map shown_byte text)) 396) in
    omega arith

pub short : (number : ℕ) (job : Job) → length (child_line number job) ≤ 400
unfolding child_line
short number job = short_row (child_text number job)

-- One more turn of the loop over words.
pub words_more : (next text : List ℕ) (is_cut : Bool) (words : List (List ℕ)) (i : ℕ) (word : List ℕ) → i < length words → word ≡ get_or words i word
    → IsShowing 396 next is_cut ((text ++ words_of (take i words)) ++ 32 ∷ word) → IsShowing 396 next is_cut (text ++ words_of (take (i + 1) words))
unfolding words_of
words_more next text is_cut words i word lt is h =
    let blank : List ℕ → List ℕ = λ w. 32 ∷ w in
    let more : flat_map blank (take (i + 1) words) ≡ flat_map blank (take i words) ++ 32 ∷ word =
    ap (flat_map blank) (take_more words i word lt ∙ ap (λ w. take i words ++ w ∷ []) (sym is))
    ∙ flat_map-append blank (take i words) (word ∷ []) ∙ ap (λ v. flat_map blank (take i words) ++ v) (append-nil (32 ∷ word)) in
    subst (IsShowing 396 next is_cut) (append_assoc text (flat_map blank (take i words)) (32 ∷ word) ∙ ap (λ v. text ++ v) (sym more)) h

pub words_none : (line text : List ℕ) (is_cut : Bool) (words : List (List ℕ)) → IsShowing 396 line is_cut text → IsShowing 396 line is_cut (text ++ words_of (take 0 words))
unfolding words_of
words_none line text is_cut words h = subst (IsShowing 396 line is_cut) (sym (append-nil text)) h

pub words_all : (line text : List ℕ) (is_cut : Bool) (words : List (List ℕ)) (i : ℕ) → length words ≤ i → IsShowing 396 line is_cut (text ++ words_of (take i words))
    → IsShowing 396 line is_cut (text ++ words_of words)
words_all line text is_cut words i le h = subst (λ ws. IsShowing 396 line is_cut (text ++ words_of ws)) (take_all i words le) h

-- A line that five texts were put on, one after the other.
pub child_is : (line : List ℕ) (is_cut : Bool) (text a b c d e : List ℕ) (number : ℕ) (job : Job) → a ≡ codes "acrun: child " → b ≡ decimal number → c ≡ purpose (subject_of_file job.file)
    → d ≡ codes ":" → e ≡ command_text job.words → IsShowing 396 line is_cut (((((text ++ a) ++ b) ++ c) ++ d) ++ e) → IsShowing 396 line is_cut (text ++ child_text number job)
unfolding child_text
child_is line is_cut text a b c d e number job a_is b_is c_is d_is e_is h =
    let flat : ((((text ++ a) ++ b) ++ c) ++ d) ++ e ≡ text ++ (a ++ b ++ c ++ d ++ e) =
    ap (λ x. ((x ++ c) ++ d) ++ e) (append_assoc text a b) ∙ ap (λ x. (x ++ d) ++ e) (append_assoc text (a ++ b) c) ∙ ap (λ x. x ++ e) (append_assoc text (a ++ b ++ c) d)
    ∙ append_assoc text (a ++ b ++ c ++ d) e in
    let told : a ++ b ++ c ++ d ++ e ≡ codes "acrun: child " ++ decimal number ++ purpose (subject_of_file job.file) ++ codes ":" ++ command_text job.words =
    ap (λ x. x ++ b ++ c ++ d ++ e) a_is ∙ ap (λ x. codes "acrun: child " ++ x ++ c ++ d ++ e) b_is ∙ ap (λ x. codes "acrun: child " ++ decimal number ++ x ++ d ++ e) c_is
    ∙ ap (λ x. codes "acrun: child " ++ decimal number ++ purpose (subject_of_file job.file) ++ x ++ e) d_is
    ∙ ap (λ x. codes "acrun: child " ++ decimal number ++ purpose (subject_of_file job.file) ++ codes ":" ++ x) e_is in
    subst (IsShowing 396 line is_cut) (flat ∙ ap (λ v. text ++ v) told) h

-- A line that four texts were put on, one after the other.
pub search_is : (line : List ℕ) (is_cut : Bool) (text a name b directory : List ℕ) → a ≡ codes " looking for " → b ≡ codes " in "
    → IsShowing 396 line is_cut ((((text ++ a) ++ name) ++ b) ++ directory) → IsShowing 396 line is_cut (text ++ search_text name directory)
unfolding search_text
search_is line is_cut text a name b directory a_is b_is h =
    let flat : (((text ++ a) ++ name) ++ b) ++ directory ≡ text ++ (a ++ name ++ b ++ directory) =
    ap (λ x. (x ++ b) ++ directory) (append_assoc text a name) ∙ ap (λ x. x ++ directory) (append_assoc text (a ++ name) b) ∙ append_assoc text (a ++ name ++ b) directory in
    let told : a ++ name ++ b ++ directory ≡ codes " looking for " ++ name ++ codes " in " ++ directory =
    ap (λ x. x ++ name ++ b ++ directory) a_is ∙ ap (λ x. codes " looking for " ++ name ++ x ++ directory) b_is in
    subst (IsShowing 396 line is_cut) (flat ∙ ap (λ v. text ++ v) told) h
