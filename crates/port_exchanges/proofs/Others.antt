-- What is put in the place of calls that do the same, from its parts.
use Rattle.std.proofs.Common.{refl, ◌≡◌, ℕ, List, length, Some, None, Option, Result, Ok, Err, subst, true}
use Rattle.std.specs.Prelude.{Contains, IfOk, IfSome, slice_range, slice_get, codes}
use Rattle.ac_calls.specs.Calls.{MacroCall}
use Rattle.ac_calls.specs.declared.call.Extent.{Extent}
use Rattle.port_idioms.specs.Filled.{text_of}
use Rattle.ac_calls.specs.Calls.{calls_in}
use Rattle.port_spots.specs.Put.{arg_text}
use Rattle.port_passes.specs.Exchanged.{AreBlank, AreFoundFirst, IsExchanged, IsFirstFound, IsOfOne, IsShown, IsValue, cache_check, looks_for_each}

one : (text : List ℕ) (c : MacroCall) (name words put : List ℕ) (list action : Extent) → name ≡ slice_range text c.start c.name_end → looks_for_each name ≡ true → length c.args ≡ 2
    → slice_get c.args 0 ≡ Some list → slice_get c.args 1 ≡ Some action → words ≡ text_of (Some (arg_text text list)) → text_of (Some (arg_text text action)) ≡ codes "break"
    → AreFoundFirst name words put → IsFirstFound text c put
one text c name words put list action named looks two first second words_are breaks are =
    record {
      macro = subst (λ n. looks_for_each n ≡ true) named looks;
      two = two;
      list = list;
      action = action;
      first = first;
      second = second;
      breaks = breaks;
      are = subst (λ w. AreFoundFirst (slice_range text c.start c.name_end) w put) words_are (subst (λ n. AreFoundFirst n words put) named are);
    }

-- A call that looks for the first of two.
pub found : {V E : Type 0} (items : V → List ℕ) (r : Result (Option V) E) (text : List ℕ) (c : MacroCall) (name words : List ℕ) (list action : Extent) → name ≡ slice_range text c.start c.name_end
    → looks_for_each name ≡ true → length c.args ≡ 2 → slice_get c.args 0 ≡ Some list → slice_get c.args 1 ≡ Some action → words ≡ text_of (Some (arg_text text list))
    → text_of (Some (arg_text text action)) ≡ codes "break" → IfOk r (λ o. IfSome o (λ v. AreFoundFirst name words (items v))) → IfOk r (λ o. IfSome o (λ v. IsFirstFound text c (items v)))
found items (Ok (Some v)) text c name words list action named looks two first second words_are breaks are = one text c name words (items v) list action named looks two first second words_are breaks are
found items (Ok None) text c name words list action named looks two first second words_are breaks are = tt
found items (Err e) text c name words list action named looks two first second words_are breaks are = tt

-- What is put in the place of AC_CACHE_VAL and its messages.
pub cached : (text : List ℕ) (before call after : MacroCall) (message variable commands result : Extent) (name said done put : List ℕ) → IsOfOne text before (codes "AC_MSG_CHECKING") message
    → Contains (calls_in text) call → IsValue text call variable commands → IsOfOne text after (codes "AC_MSG_RESULT") result
    → AreBlank text before.end call.start × AreBlank text call.end after.start → IsShown text variable result name → said ≡ arg_text text message → done ≡ arg_text text commands
    → put ≡ cache_check said name done → IsExchanged text before.start after.end put
cached text before call after message variable commands result name said done put says there value tells apart shown said_is done_is is =
    IsExchanged.cached (record {
      before = before;
      call = call;
      after = after;
      message = message;
      variable = variable;
      commands = commands;
      result = result;
      name = name;
      says = says;
      is_there = there;
      value = value;
      tells = tells;
      place = (refl, refl);
      apart = apart;
      shown = shown;
      is = subst (λ d. put ≡ cache_check (arg_text text message) name d) done_is (subst (λ s. put ≡ cache_check s name done) said_is is);
    })
