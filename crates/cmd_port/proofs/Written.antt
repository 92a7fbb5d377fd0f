-- What is printed, and its status.
use Rattle.std.proofs.Common.{◌≡◌, ◌≢◌, ◌⊎◌, inl, inr, ℕ, List, [], ◌∷◌, Option, Some, None, Bool, true, false, ◌&&◌, ◌||◌, ap, subst, sym, refl, ◌∙◌, true≢false}
use Rattle.std.specs.Prelude.{if◌then◌else◌}
use Rattle.std.specs.List.{list_any}
use Rattle.file_disk.specs.Known.{Known}
use Rattle.cmd_call.specs.Calls.{is_input, is_option}
use Rattle.lint_sources.specs.Sources.{IsNamed}
use Rattle.std.specs.Io.KnownBytes.{Appends}
use Rattle.port_idioms.specs.declared.idioms.Idioms.{Idioms}
use Rattle.cmd_port.specs.Ported.{IsPorted}
use Rattle.cmd_port.specs.Served.{IsEnded}
use Rattle.lint_errors.specs.Errors.{IsAccepted}
use Rattle.port_idioms.specs.declared.idioms.Idioms.TheVariants.{Exact, All}
use Rattle.cmd_port.specs.Asked.{Package, Request, after_one, after_two, by_two, here, is_package, is_switch, named, packaged, plain_of, request_of, stated_by, with_stated}
use Rattle.cmd_port.specs.Printed.{IsPrinted, IsAnswer, status_of}

pub put_lent : (slice text : List ℕ) (result : ℕ) (a b : Option (List ℕ)) → slice ≡ text → (result ≢ 2 → Appends a b slice) → result ≢ 2 → Appends a b text
put_lent slice text result a b lent put ne = subst (λ t. Appends a b t) lent (put ne)

pub status_lent : (status wanted result : ℕ) → status ≡ wanted → (result ≢ 2 → result ≡ status) → result ≢ 2 → result ≡ wanted
status_lent status wanted result is same ne = same ne ∙ is

-- What was rewritten gets what its templates want, and is printed.
pub answered : (idioms : Idioms) (naming : Option Package) (is_stream : Bool) (text slice mid : List ℕ) (had : Bool) (result : ℕ) (a b : Option (List ℕ)) → slice ≡ text → IsPorted idioms naming slice had mid
    → (result ≢ 2 → (out : List ℕ) × (has : Bool) × IsEnded None is_stream had idioms mid has out × (result ≡ status_of has) × Appends a b out)
    → result ≢ 2 → (o : List ℕ) × IsPrinted idioms naming is_stream text o result × Appends a b o
answered idioms naming is_stream text slice mid had result a b lent ported ends ne =
    let e = ends ne in
    (e.0, record { had_comments = had; mid = mid; ported = subst (λ t. IsPorted idioms naming t had mid) lent ported; has_comments = e.1; ended = e.2; status_is = e.3 }, e.4)

-- What is printed and its status, once what the templates want is there.
pub ended_so : (idioms : Idioms) (is_stream had has : Bool) (mid out : List ℕ) (result : ℕ) (a b : Option (List ℕ)) → IsEnded None is_stream had idioms mid has out
    → (result ≢ 2 → result ≡ status_of has) → (result ≢ 2 → Appends a b out)
    → result ≢ 2 → (o : List ℕ) × (h : Bool) × IsEnded None is_stream had idioms mid h o × (result ≡ status_of h) × Appends a b o
ended_so idioms is_stream had has mid out result a b ended same put ne = (out, has, ended, same ne, put ne)

-- A text without comments about what is left is accepted.
pub accepted_if : (idioms : Idioms) (naming : Option Package) (text out : List ℕ) (had : Bool) → IsPorted idioms naming text had out → had ≡ false → IsAccepted out
accepted_if idioms naming text out true ported is = absurd (true≢false is)
accepted_if idioms naming text out false ported is = subst IsAccepted (sym ported.printed.0) ported.printed.1

pub read : (files : Option Known) (idioms : Idioms) (naming : Option Package) (is_stream flag : Bool) (name text directory : List ℕ) (result : ℕ) (a b : Option (List ℕ)) → flag ≡ is_stream → IsNamed files is_stream name text directory
    → (result ≢ 2 → (o : List ℕ) × IsPrinted idioms naming flag text o result × Appends a b o)
    → result ≢ 2 → (o : List ℕ) × ((t : List ℕ) × (d : List ℕ) × IsNamed files is_stream name t d × IsPrinted idioms naming is_stream t o result) × Appends a b o
read files idioms naming is_stream flag name text directory result a b is named gives ne =
    let g = gives ne in
    (g.0, (text, directory, named, subst (λ s. IsPrinted idioms naming s text g.0 result) is g.1), g.2)

-- ---- the words

-- The words with a name have that name among them.
from_here : (idioms : Idioms) (request : Request) → Some (here idioms) ≡ Some request → is_input request.source ≡ true → ⊥
from_here idioms request is input =
    let same : here idioms ≡ request = cc in
    let no_input : is_input request.source ≡ false = ap (λ r. is_input r.source) (sym same) in
    true≢false (sym input ∙ no_input)

from_named : (idioms : Idioms) (word : List ℕ) (request : Request) (b : Bool) → (if b then None else Some (record { idioms = idioms; naming = None; source = word })) ≡ Some request → request.source ≡ word
from_named idioms word request true is = absurd cc
from_named idioms word request false is =
    let given : Request = record { idioms = idioms; naming = None; source = word } in
    let same : given ≡ request = cc in
    ap (λ r. r.source) (sym same)

from_one : (word : List ℕ) (request : Request) (b : Bool) → (if b then Some (here All) else named Exact word) ≡ Some request → is_input request.source ≡ true → request.source ≡ word
from_one word request true is input = absurd (from_here All request is input)
from_one word request false is input = from_named Exact word request (is_option word) is

from_second : (first second : List ℕ) (request : Request) (b : Bool) → (if b then named All first else None) ≡ Some request → request.source ≡ first
from_second first second request true is = from_named All first request (is_option first) is
from_second first second request false is = absurd cc

from_two : (first second : List ℕ) (request : Request) (b : Bool)
    → (if b then named All second else (if is_switch second then named All first else None)) ≡ Some request → (request.source ≡ second) ⊎ (request.source ≡ first)
from_two first second request true is = inl (from_named All second request (is_option second) is)
from_two first second request false is = inr (from_second first second request (is_switch second) is)

among_one : (word source : List ℕ) → source ≡ word → is_input source ≡ true → list_any is_input (word ∷ []) ≡ true
among_one word source same input = ap (λ b. b || false) (ap is_input (sym same) ∙ input)

or_true : (b : Bool) → (b || true) ≡ true
or_true true = refl
or_true false = refl

among_two : (first second source : List ℕ) → (source ≡ second) ⊎ (source ≡ first) → is_input source ≡ true → list_any is_input (first ∷ second ∷ []) ≡ true
among_two first second source (inr same) input = ap (λ b. b || list_any is_input (second ∷ [])) (ap is_input (sym same) ∙ input)
among_two first second source (inl same) input = ap (λ b. is_input first || b) (among_one second source same input) ∙ or_true (is_input first)

plain_among : (words : List (List ℕ)) (request : Request) → plain_of words ≡ Some request → is_input request.source ≡ true → list_any is_input words ≡ true
plain_among [] request is input = absurd (from_here Exact request is input)
plain_among (word ∷ []) request is input = among_one word request.source (from_one word request (is_switch word) is input) input
plain_among (first ∷ second ∷ []) request is input = among_two first second request.source (from_two first second request (is_switch first) is) input
plain_among (first ∷ second ∷ third ∷ more) request is input = absurd cc

-- A name and a version leave the source as it was.
from_packaged : (naming : Package) (asked request : Request) (idioms : Idioms) → packaged naming asked idioms ≡ Some request → request.source ≡ asked.source
from_packaged naming asked request Exact is = absurd cc
from_packaged naming asked request All is =
    let given : Request = record { idioms = All; naming = Some naming; source = asked.source } in
    let same : given ≡ request = cc in
    ap (λ r. r.source) (sym same)

stated_among : (naming : Option Package) (asked : Option Request) (request : Request) (words : List (List ℕ)) → with_stated naming asked ≡ Some request
    → ((r : Request) → asked ≡ Some r → is_input r.source ≡ true → list_any is_input words ≡ true) → is_input request.source ≡ true → list_any is_input words ≡ true
stated_among None asked request words is among input = absurd cc
stated_among (Some naming) None request words is among input = absurd cc
stated_among (Some naming) (Some asked) request words is among input =
    among asked refl (ap is_input (sym (from_packaged naming asked request asked.idioms is)) ∙ input)

or_more : (a b : Bool) → b ≡ true → (a || b) ≡ true
or_more a b is = ap (λ b. a || b) is ∙ or_true a

or_between : (a b c : Bool) → (a || c) ≡ true → (a || (b || c)) ≡ true
or_between true b c is = refl
or_between false b c is = or_more b c is

or_after : (a b c : Bool) → (a || (b || false)) ≡ true → (a || (b || (c || false))) ≡ true
or_after true b c is = refl
or_after false true c is = refl
or_after false false c is = absurd (true≢false (sym is))

two_stated : (first second third : List ℕ) (request : Request) (b : Bool) → (if b then with_stated (stated_by third) (by_two first second) else None) ≡ Some request
    → is_input request.source ≡ true → list_any is_input (first ∷ second ∷ third ∷ []) ≡ true
two_stated first second third request true is input =
    stated_among (stated_by third) (by_two first second) request (first ∷ second ∷ third ∷ []) is
    (λ r some said. or_after (is_input first) (is_input second) (is_input third) (plain_among (first ∷ second ∷ []) r some said)) input
two_stated first second third request false is input = absurd cc

after_two_among : (first second : List ℕ) (more : List (List ℕ)) (request : Request) → after_two first second more ≡ Some request → is_input request.source ≡ true
    → list_any is_input (first ∷ second ∷ more) ≡ true
after_two_among first second [] request is input = plain_among (first ∷ second ∷ []) request is input
after_two_among first second (third ∷ []) request is input = two_stated first second third request (is_package third) is input
after_two_among first second (third ∷ fourth ∷ more) request is input = absurd cc

one_stated : (first second : List ℕ) (more : List (List ℕ)) (request : Request) (b : Bool)
    → (if b then with_stated (stated_by second) (plain_of (first ∷ more)) else after_two first second more) ≡ Some request
    → is_input request.source ≡ true → list_any is_input (first ∷ second ∷ more) ≡ true
one_stated first second more request true is input =
    stated_among (stated_by second) (plain_of (first ∷ more)) request (first ∷ second ∷ more) is
    (λ r some said. or_between (is_input first) (is_input second) (list_any is_input more) (plain_among (first ∷ more) r some said)) input
one_stated first second more request false is input = after_two_among first second more request is input

after_one_among : (first : List ℕ) (more : List (List ℕ)) (request : Request) → after_one first more ≡ Some request → is_input request.source ≡ true
    → list_any is_input (first ∷ more) ≡ true
after_one_among first [] request is input = plain_among (first ∷ []) request is input
after_one_among first (second ∷ more) request is input = one_stated first second more request (is_package second) is input

none_stated : (first : List ℕ) (more : List (List ℕ)) (request : Request) (b : Bool)
    → (if b then with_stated (stated_by first) (plain_of more) else after_one first more) ≡ Some request
    → is_input request.source ≡ true → list_any is_input (first ∷ more) ≡ true
none_stated first more request true is input =
    stated_among (stated_by first) (plain_of more) request (first ∷ more) is
    (λ r some said. or_more (is_input first) (list_any is_input more) (plain_among more r some said)) input
none_stated first more request false is input = after_one_among first more request is input

pub named_among : (words : List (List ℕ)) (request : Request) → request_of words ≡ Some request → is_input request.source ≡ true → list_any is_input words ≡ true
named_among [] request is input = absurd (from_here Exact request is input)
named_among (first ∷ more) request is input = none_stated first more request (is_package first) is input

pub stream_is : (reads : Bool) (source : List ℕ) (b : Bool) → is_input source ≡ b → (is_input source ≡ true → reads ≡ true) → (reads && is_input source) ≡ is_input source
stream_is true source b is all = refl
stream_is false source false is all = sym is
stream_is false source true is all = absurd (true≢false (sym (all is)))

pub by_words : (files : Option Known) (words : List (List ℕ)) (asked : Option Request) (request : Request) (reads : Bool) (result : ℕ) (a b : Option (List ℕ)) → asked ≡ request_of words → asked ≡ Some request
    → reads ≡ list_any is_input words
    → (result ≢ 2 → (o : List ℕ) × ((t : List ℕ) × (d : List ℕ) × IsNamed files (reads && is_input request.source) request.source t d × IsPrinted request.idioms request.naming (reads && is_input request.source) t o result) × Appends a b o)
    → result ≢ 2 → (o : List ℕ) × IsAnswer files (request_of words) o result × Appends a b o
by_words files words asked request reads result a b is some all gives ne =
    let g = gives ne in
    let found : Some request ≡ request_of words = sym some ∙ is in
    let stream : (reads && is_input request.source) ≡ is_input request.source =
    stream_is reads request.source (is_input request.source) refl (λ input. all ∙ named_among words request (sym found) input) in
    let answer : IsAnswer files (Some request) g.0 result = (
      g.1.0,
      g.1.1,
      subst (λ s. IsNamed files s request.source g.1.0 g.1.1) stream g.1.2,
      subst (λ s. IsPrinted request.idioms request.naming s g.1.0 g.0 result) stream g.1.3,
    ) in
    (g.0, subst (λ w. IsAnswer files w g.0 result) found answer, g.2)

pub not_wrong : (words : Option Request) (request : Request) (result : ℕ) → Some request ≡ words → words ≡ None → result ≡ 2
not_wrong words request result is none = absurd (let z : Some request ≡ None = is ∙ none in cc)

-- ---- text and then warnings

-- What follows a text that was written, if the status isn't 2
pub status_after : (first second wanted : ℕ) → (first ≢ 2 → first ≡ wanted) → (first ≡ 2 → ⊥) → (second ≢ 2 → second ≡ first) → second ≢ 2 → second ≡ wanted
status_after first second wanted is went same ne = same ne ∙ is went

pub put_after : {A : Type 0} (first : ℕ) → (first ≢ 2 → A) → (first ≡ 2 → ⊥) → A
put_after first put went = put went

pub warned_after : {S : Type 0} (contents : S → Option (List ℕ)) (first second : ℕ) (old mid new : S) → (first ≢ 2 → mid ≡ old) → (first ≡ 2 → ⊥)
    → (second ≢ 2 → (new ≡ mid) ⊎ ((page : List ℕ) × Appends (contents mid) (contents new) page))
    → second ≢ 2 → (new ≡ old) ⊎ ((page : List ℕ) × Appends (contents old) (contents new) page)
warned_after contents first second old mid new silent went warned ne =
    subst (λ s. (new ≡ s) ⊎ ((page : List ℕ) × Appends (contents s) (contents new) page)) (silent went) (warned ne)
