-- What is removed of what a compiler made, and what is done after it.
use Rattle.std.proofs.Common.{◌≡◌, ◌==◌, ℕ, ◌-◌, List, [], ◌∷◌, ◌++◌, length, take, true, false, Bool, ◌≤◌, Option, Some, None, Result, Ok, Err, OnErr, OnOk, refl, sym, ap, subst, ◌∙◌, append-nil, append_assoc, arith, if◌then◌else◌}
use Rattle.std.specs.Prelude.{codes, IfSome, ⊤}
use Rattle.std.specs.List.{ends_with}
use Rattle.std.specs.Str.Pattern.{FindsTextSuffix, StripsSuffix}
use Rattle.std.specs.Str.{IsCharBoundary}
use Rattle.std.proofs.lemmas.Str.Pattern.{ends_text}
use Rattle.file_disk.specs.Known.{Known, Deed, Adds, Does, kind_under, with_deeds}
use Rattle.file_disk.specs.Clearing.{DoesAll, clearing, clearing_now}
use Rattle.file_disk.specs.declared.found.Found.{Found}
use Rattle.file_disk.proofs.Deeds.{does, does_more, does_none, does_then}
use Rattle.crew_launch.specs.Fresh.{AreFreeable, DoesFront, Frees, FreesOne, IsFreeable, Prepares, PreparesAfter, after, breaking, clearing_each, clearing_stale, made_of, preparing, products_of, replacing, spoiling}

-- Another property follows.
pub does_map : (a b : Option Known) (P Q : Known → List Deed → Type 0) → Does a b P → ((k : Known) (d : List Deed) → P k d → Q k d) → Does a b Q
does_map None None P Q p f = tt
does_map None (Some b) P Q p f = absurd p
does_map (Some a) None P Q p f = absurd p
does_map (Some a) (Some b) P Q p f = (p.0, p.1, f a p.0 p.2)

-- what was done is the first part
pub front_first : (a b : Option Known) (f g : Known → List Deed) → DoesFront a b f → DoesFront a b (after f g)
front_first a b f g front =
    does_map a b (λ k d. (rest : List Deed) × (d ++ rest ≡ f k)) (λ k d. (rest : List Deed) × (d ++ rest ≡ after f g k)) front
    (λ k d is. (is.0 ++ g (with_deeds k (f k)), sym (append_assoc d is.0 (g (with_deeds k (f k)))) ∙ ap (λ l. l ++ g (with_deeds k (f k))) is.1))

-- the first part is done, and then a part of the second
front_then : (a b c : Option Known) (f g : Known → List Deed) → DoesAll a b f → DoesFront b c g → DoesFront a c (after f g)
front_then a b c f g all front =
    does_then a b c (λ k d. d ≡ f k) (λ k d. (rest : List Deed) × (d ++ rest ≡ g k)) (λ k d. (rest : List Deed) × (d ++ rest ≡ after f g k)) all front
    (λ k d e is q. (q.0, append_assoc d e q.0 ∙ ap (λ l. d ++ l) q.1 ∙ ap (λ l. l ++ g (with_deeds k l)) is))

-- nothing is done
front_none : (a b : Option Known) (f : Known → List Deed) → Adds a b [] → DoesFront a b f
front_none a b f none = does a b [] (λ k d. (rest : List Deed) × (d ++ rest ≡ f k)) none (λ k. (f k, refl))

-- The same of an answer that is an error.
pub refused_first : {X E : Type 0} (r : Result X E) (a b : Option Known) (f g : Known → List Deed) → OnErr r (DoesFront a b f) → OnErr r (DoesFront a b (after f g))
refused_first (Ok x) a b f g front = tt
refused_first (Err e) a b f g front = front_first a b f g front

pub refused_then : {X E : Type 0} (r : Result X E) (a b c : Option Known) (f g : Known → List Deed) → DoesAll a b f → OnErr r (DoesFront b c g) → OnErr r (DoesFront a c (after f g))
refused_then (Ok x) a b c f g all front = tt
refused_then (Err e) a b c f g all front = front_then a b c f g all front

-- One name is freed.
pub frees_one : {X E : Type 0} (r : Result X E) (a b : Option Known) (name : List ℕ) (found : Found) → IfSome a (λ k. found ≡ kind_under k name)
    → OnOk r (Adds a b (clearing name found)) → OnOk r (IsFreeable found) → OnOk r (Does a b (FreesOne name))
frees_one (Ok x) a b name found is added can =
    does_more a b (λ k. found ≡ kind_under k name) (λ k d. d ≡ clearing name found) (FreesOne name) is
    (does a b (clearing name found) (λ k d. d ≡ clearing name found) added (λ k. refl))
    (λ k d same deeds. (deeds ∙ ap (clearing name) same, subst IsFreeable same can))
frees_one (Err e) a b name found is added can = tt

-- One name after the other is freed.
both : (first second : List ℕ) (k : Known) (d e : List Deed) → FreesOne first k d → FreesOne second (with_deeds k d) e → Frees (first ∷ second ∷ []) k (d ++ e)
both first second k d e one two =
    let G : List Deed → Type 0 = λ x. (d ++ e ≡ x ++ (clearing_now second (with_deeds k x) ++ [])) × (IsFreeable (kind_under k first) × (IsFreeable (kind_under (with_deeds k x) second) × ⊤)) in
    subst G one.0 (ap (λ l. d ++ l) (two.0 ∙ sym (append-nil (clearing_now second (with_deeds k d)))), (one.1, (two.1, tt)))

pub frees_both : {X E : Type 0} (r : Result X E) (a b c : Option Known) (first second : List ℕ) → Does a b (FreesOne first) → OnOk r (Does b c (FreesOne second))
    → OnOk r (Does a c (Frees (first ∷ second ∷ [])))
frees_both (Ok x) a b c first second one two =
    does_then a b c (FreesOne first) (FreesOne second) (Frees (first ∷ second ∷ [])) one two (both first second)
frees_both (Err e) a b c first second one two = tt

-- The second is not freed.
pub refused_second : {X E : Type 0} (r : Result X E) (a b c : Option Known) (first second : List ℕ) → Does a b (FreesOne first) → OnErr r (Adds b c [])
    → OnErr r (DoesFront a c (clearing_each (first ∷ second ∷ [])))
refused_second (Ok x) a b c first second one none = tt
refused_second (Err e) a b c first second one none =
    front_then a b c (clearing_now first) (clearing_each (second ∷ []))
    (does_map a b (FreesOne first) (λ k d. d ≡ clearing_now first k) one (λ k d p. p.0))
    (front_none b c (clearing_each (second ∷ [])) none)

-- Nothing was done before.
pub refused_clear : (a b : Option Known) (f : Known → List Deed) → DoesAll a b (λ k. []) → DoesFront a b f
refused_clear a b f none =
    does_map a b (λ k d. d ≡ []) (λ k d. (rest : List Deed) × (d ++ rest ≡ f k)) none (λ k d is. (f k, ap (λ l. l ++ f k) is))

-- Nothing is freed.
pub refused_none : (a b : Option Known) (f : Known → List Deed) → Adds a b [] → DoesFront a b f
refused_none a b f none = front_none a b f none

-- The names of what a compiler makes
if_true : {A : Type 0} (b : Bool) (x y : A) → true ≡ b → (if b then x else y) ≡ x
if_true b x y is = ap (λ t. if t then x else y) (sym is)

if_false : {A : Type 0} (b : Bool) (x y : A) → false ≡ b → (if b then x else y) ≡ y
if_false b x y is = ap (λ t. if t then x else y) (sym is)

pub products_some : (name program : List ℕ) → StripsSuffix (FindsTextSuffix (codes ".c")) name program → products_of name ≡ made_of program
unfolding products_of
products_some name program strips =
    let end = codes ".c" in
    let k = strips.0 in
    let found = strips.1 in
    let within : k ≤ length name = omega (arith, strips.3) in
    let boundary = subst (λ j. IsCharBoundary name (length name - j)) (sym found.0) found.2 in
    let ends = ends_text true end name (k, found, within, boundary) in
    let same : take (length name - 2) name ≡ program = sym (strips.2 ∙ ap (λ j. take (length name - j) name) found.0) in
    if_true (ends_with ◌==◌ name end) (made_of (take (length name - 2) name)) [] ends ∙ ap made_of same

pub products_none : (name : List ℕ) → FindsTextSuffix (codes ".c") name None → products_of name ≡ []
unfolding products_of
products_none name none =
    if_false (ends_with ◌==◌ name (codes ".c")) (made_of (take (length name - 2) name)) [] (ends_text false (codes ".c") name none)

-- What is done for them
pub freed_some : {X E : Type 0} (r : Result X E) (a b : Option Known) (name program : List ℕ) → StripsSuffix (FindsTextSuffix (codes ".c")) name program
    → OnOk r (Does a b (Frees (made_of program))) → OnOk r (Does a b (Frees (products_of name)))
freed_some r a b name program strips freed =
    subst (λ names. OnOk r (Does a b (Frees names))) (sym (products_some name program strips)) freed

pub refused_some : {X E : Type 0} (r : Result X E) (a b : Option Known) (name program : List ℕ) → StripsSuffix (FindsTextSuffix (codes ".c")) name program
    → OnErr r (DoesFront a b (clearing_each (made_of program))) → OnErr r (DoesFront a b (clearing_each (products_of name)))
refused_some r a b name program strips refused =
    subst (λ names. OnErr r (DoesFront a b (clearing_each names))) (sym (products_some name program strips)) refused

pub freed_none : (a : Option Known) (name : List ℕ) → FindsTextSuffix (codes ".c") name None → Does a a (Frees (products_of name))
freed_none a name none =
    subst (λ names. Does a a (Frees names)) (sym (products_none name none)) (does_none a (Frees []) (λ k. (refl, tt)))

-- A conftest is written after that.
pub prepared : {X E : Type 0} (r : Result X E) (a b c : Option Known) (name text : List ℕ) → Does a b (Frees (products_of name)) → OnOk r (DoesAll b c (replacing name text))
    → OnOk r (Does a c (Prepares name text))
prepared (Ok x) a b c name text freed filled =
    does_then a b c (Frees (products_of name)) (λ k d. d ≡ replacing name text k) (Prepares name text) freed filled
    (λ k d e p q. (ap (λ l. d ++ l) q ∙ ap (λ l. l ++ replacing name text (with_deeds k l)) p.0, p.1))
prepared (Err e) a b c name text freed filled = tt

pub broken : {X E : Type 0} (r : Result X E) (a b c : Option Known) (name : List ℕ) → Does a b (Frees (products_of name)) → OnErr r (DoesFront b c (spoiling name))
    → OnErr r (DoesFront a c (breaking name))
broken r a b c name freed front =
    refused_then r a b c (clearing_each (products_of name)) (spoiling name)
    (does_map a b (Frees (products_of name)) (λ k d. d ≡ clearing_each (products_of name) k) freed (λ k d p. p.0)) front

-- The file that is stale is removed before.
pub prepared_after : {X E : Type 0} (r : Result X E) (a b c : Option Known) (stale : Option (List ℕ)) (name text : List ℕ) → DoesAll a b (clearing_stale stale)
    → OnOk r (Does b c (Prepares name text)) → OnOk r (Does a c (PreparesAfter stale name text))
prepared_after (Ok x) a b c stale name text cleared written =
    does_then a b c (λ k d. d ≡ clearing_stale stale k) (Prepares name text) (PreparesAfter stale name text) cleared written
    (λ k d e p q. (ap (λ l. d ++ l) q.0 ∙ ap (λ l. l ++ preparing name text (with_deeds k l)) p, subst (λ l. AreFreeable (products_of name) (with_deeds k l)) p q.1))
prepared_after (Err e) a b c stale name text cleared written = tt
