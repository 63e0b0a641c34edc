-- Facts of told contents, over calls that only read.
use Rattle.std.specs.Prelude.{IfErr, IfSome, OnOk}
use Rattle.std.proofs.Common.{◌≡◌, Option, Some, None, Result, Ok, Err, refl, sym, subst}
use Rattle.mtn_model.specs.Table.{Contents}
use Rattle.mtn_ports.specs.Kept.{Same}
use Rattle.mtn_ports.proofs.KeptLemmas.{if_same}
use Rattle.mtn_history.specs.Errors.{IfDamage}
use Rattle.mtn_history.specs.declared.errors.Damage.{Damage}
use Rattle.mtn_history.specs.declared.errors.StoreError.{StoreError}
use Rattle.mtn_history.specs.declared.errors.StoreError.TheVariants.{Damaged, Failed, NoMemory}

pub each_told : (told : Option Contents) (A B : Contents → Type 0) → ((c : Contents) → A c → B c) → IfSome told A → IfSome told B
each_told None A B join a = tt
each_told (Some c) A B join a = join c a

pub each_both : (told : Option Contents) (A B C : Contents → Type 0) → ((c : Contents) → A c → B c → C c) → IfSome told A → IfSome told B → IfSome told C
each_both None A B C join a b = tt
each_both (Some c) A B C join a b = join c a b

-- one of each moment
pub with_earlier : (old new : Option Contents) (A B C : Contents → Type 0) → Same old new → ((c : Contents) → A c → B c → C c) → IfSome old A → IfSome new B → IfSome new C
with_earlier old new A B C kept join a b = each_both new A B C join (if_same old new A kept a) b

pub if_damage : (e : StoreError) (P Q : Damage → Type 0) → ((d : Damage) → P d → Q d) → IfDamage e P → IfDamage e Q
if_damage (Damaged d) P Q join fact = join d fact
if_damage Failed P Q join fact = tt
if_damage NoMemory P Q join fact = tt

if_err : {T : Type 0} (r : Result T StoreError) (P Q : Damage → Type 0) → ((d : Damage) → P d → Q d) → IfErr r (λ e. IfDamage e P) → IfErr r (λ e. IfDamage e Q)
if_err (Ok x) P Q join fact = tt
if_err (Err e) P Q join fact = if_damage e P Q join fact

on_ok : {T : Type 0} (r : Result T StoreError) (A B : Type 0) → (A → B) → OnOk r A → OnOk r B
on_ok (Ok x) A B join fact = join fact
on_ok (Err e) A B join fact = tt

-- The answer of a last step, with what the earlier ones found
pub last_found : {T : Type 0} (told : Option Contents) (A B C : Contents → Type 0) (r : Result T StoreError) → ((c : Contents) → A c → B c → C c) →
    IfSome told A → IfSome told (λ c. OnOk r (B c)) → IfSome told (λ c. OnOk r (C c))
last_found told A B C r join a b = each_both told A (λ c. OnOk r (B c)) (λ c. OnOk r (C c)) (λ c x y. on_ok r (B c) (C c) (join c x) y) a b

pub last_damaged : {T : Type 0} (told : Option Contents) (A : Contents → Type 0) (P Q : Contents → Damage → Type 0) (r : Result T StoreError) → ((c : Contents) (d : Damage) → A c → P c d → Q c d) →
    IfSome told A → IfSome told (λ c. IfErr r (λ e. IfDamage e (P c))) → IfSome told (λ c. IfErr r (λ e. IfDamage e (Q c)))
last_damaged told A P Q r join a p = each_both told A (λ c. IfErr r (λ e. IfDamage e (P c))) (λ c. IfErr r (λ e. IfDamage e (Q c))) (λ c x y. if_err r (P c) (Q c) (λ d. join c d x) y) a p

-- the damage that ends a step
pub ends_damaged : {T : Type 0} (told : Option Contents) (A : Contents → Type 0) (P Q : Contents → Damage → Type 0) (e : StoreError) (r : Result T StoreError) → r ≡ Err e → ((c : Contents) (d : Damage) → A c → P c d → Q c d) →
    IfSome told A → IfSome told (λ c. IfDamage e (P c)) → IfSome told (λ c. IfErr r (λ x. IfDamage x (Q c)))
ends_damaged {T} told A P Q e r is join a p =
    each_both told A (λ c. IfDamage e (P c)) (λ c. IfErr r (λ x. IfDamage x (Q c)))
    (λ c x y. subst (λ (o : Result T StoreError). IfErr o (λ z. IfDamage z (Q c))) (sym is) (if_damage e (P c) (Q c) (λ d. join c d x) y)) a p

-- what holds of any records
pub all_told : (told : Option Contents) {A : Contents → Type 0} → ((c : Contents) → A c) → IfSome told A
all_told None a = tt
all_told (Some c) a = a c

-- nothing was found before
pub nothing_yet : (told : Option Contents) → IfSome told (λ _. Unit {0})
nothing_yet None = tt
nothing_yet (Some c) = tt
