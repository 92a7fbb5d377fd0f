-- Lemmas on what is done to a disk.
use Rattle.std.proofs.Common.{◌≡◌, List, [], ◌++◌, Option, Some, None, IfSome, sym, ap, subst, ◌∙◌, append-nil, append_assoc}
use Rattle.file_disk.specs.Known.{Known, Deed, with_deeds, Adds, Does}

pub with_none : (k : Known) → k ≡ with_deeds k []
with_none k = ap (λ d. record { deeds = d; files = k.files }) (sym (append-nil k.deeds))

pub with_more : (k : Known) (d e : List Deed)
    → with_deeds (with_deeds k d) e ≡ with_deeds k (d ++ e)
with_more k d e = ap (λ l. record { deeds = l; files = k.files }) (append_assoc k.deeds d e)

-- Nothing was done.
pub adds_none : (a : Option Known) → Adds a a []
adds_none None = tt
adds_none (Some k) = with_none k

-- One thing after the other.
pub adds_then : (a b c : Option Known) (d e : List Deed) → Adds a b d → Adds b c e
    → Adds a c (d ++ e)
adds_then None None None d e p q = tt
adds_then None None (Some c) d e p q = absurd q
adds_then None (Some b) c d e p q = absurd p
adds_then (Some a) None c d e p q = absurd p
adds_then (Some a) (Some b) None d e p q = absurd q
adds_then (Some a) (Some b) (Some c) d e p q = q ∙ ap (λ k. with_deeds k e) p ∙ with_more a d e

-- Deeds that are known have a property.
pub does : (a b : Option Known) (d : List Deed) (P : Known → List Deed → Type 0) → Adds a b d
    → ((k : Known) → P k d) → Does a b P
does None None d P p f = tt
does None (Some b) d P p f = absurd p
does (Some a) None d P p f = absurd p
does (Some a) (Some b) d P p f = (d, p, f a)

pub does_none : (a : Option Known) (P : Known → List Deed → Type 0) → ((k : Known) → P k [])
    → Does a a P
does_none a P f = does a a [] P (adds_none a) f

pub does_then : (a b c : Option Known) (P Q R : Known → List Deed → Type 0) → Does a b P
    → Does b c Q
    → ((k : Known) (d e : List Deed) → P k d → Q (with_deeds k d) e → R k (d ++ e)) → Does a c R
does_then None None None P Q R p q f = tt
does_then None None (Some c) P Q R p q f = absurd q
does_then None (Some b) c P Q R p q f = absurd p
does_then (Some a) None c P Q R p q f = absurd p
does_then (Some a) (Some b) None P Q R p q f = absurd q
does_then (Some a) (Some b) (Some c) P Q R p q f =
    (p.0 ++ q.0, q.1 ∙ ap (λ k. with_deeds k q.0) p.1 ∙ with_more a p.0 q.0, f a p.0 q.0 p.2 (subst (λ k. Q k q.0) p.1 q.2))

-- Another property follows, also from what is known before.
pub does_more : (a b : Option Known) (X : Known → Type 0) (P Q : Known → List Deed → Type 0)
    → IfSome a X → Does a b P
    → ((k : Known) (d : List Deed) → X k → P k d → Q k d) → Does a b Q
does_more None None X P Q x p f = tt
does_more None (Some b) X P Q x p f = absurd p
does_more (Some a) None X P Q x p f = absurd p
does_more (Some a) (Some b) X P Q x p f = (p.0, p.1, f a p.0 x p.2)

-- Something holds after the deeds.
pub after_does : (a b : Option Known) (X Y : Known → Type 0) (P : Known → List Deed → Type 0)
    → IfSome a X → Does a b P
    → ((k : Known) (d : List Deed) → X k → P k d → Y (with_deeds k d)) → IfSome b Y
after_does None None X Y P x p f = tt
after_does None (Some b) X Y P x p f = absurd p
after_does (Some a) None X Y P x p f = absurd p
after_does (Some a) (Some b) X Y P x p f = subst Y (sym p.1) (f a p.0 x p.2)
