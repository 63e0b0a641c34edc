-- Where revisions stand, by their texts' records.
use Rattle.std.specs.Prelude.{IfSome, slice_get}
use Rattle.std.proofs.Common.{◌≡◌, ◌<◌, ◌^◌, ℕ, Bool, true, List, ◌++◌, length, Option, Some, None, refl, sym, ap, ◌∙◌, subst, arith}
use Rattle.std.specs.FinMap.{get}
use Rattle.mtn_base.specs.Hex.{id_of}
use Rattle.mtn_base.specs.declared.id.Id.{Id}
use Rattle.mtn_history_laws.specs.History.{Revision}
use Rattle.mtn_replay.specs.Lawful.{IsHistory}
use Rattle.mtn_replay.specs.Making.{place_of}
use Rattle.mtn_replay.proofs.Histories.{history_is_grown}
use Rattle.mtn_replay.proofs.Places.{within, inside, no_place, place_has, place_within}
use Rattle.mtn_model.specs.State.{Logged}
use Rattle.mtn_model.specs.Table.{Table, Contents, body_at}
use Rattle.mtn_ports.specs.Kept.{with_all, IsBody}
use Rattle.mtn_ports.specs.declared.batch.Put.{Put}
use Rattle.mtn_records.specs.Fields.{BeginsWithNone, number_text, IsNumber}
use Rattle.mtn_records.specs.Apart.{number_apart}
use Rattle.mtn_history.specs.declared.errors.Damage.{Damage}
use Rattle.mtn_history.specs.declared.errors.Damage.TheVariants.{Bad, Missing}
use Rattle.mtn_history.specs.declared.errors.StoreError.{StoreError}
use Rattle.mtn_history.specs.declared.errors.StoreError.TheVariants.{Failed, Damaged, NoMemory}
use Rattle.mtn_history.specs.Damage.{IsShown}
use Rattle.mtn_history.specs.Errors.{IfDamage}
use Rattle.mtn_history.specs.Places.{IsPlaced, UnplacedBelow}
use Rattle.mtn_history.specs.Revisions.{AreTexts}

below_all : (r n m : ℕ) → r < n → n < m → r < m
below_all r n m a b = omega (arith, a, b)

unplaced_at : (c : Contents) (n : ℕ) (key body : List ℕ) (e : StoreError) → body_at c 3 key ≡ Some body → n < 2 ^ 64 → BeginsWithNone number_text IsNumber body → IfDamage e (λ d. d ≡ Bad 3 key body) → IfDamage e (UnplacedBelow n c)
unplaced_at c n key body Failed held fits none is = tt
unplaced_at c n key body NoMemory held fits none is = tt
unplaced_at c n key body (Damaged d) held fits none is =
    subst (UnplacedBelow n c) (sym is) (refl, held, λ r text lt spelled. none r text (below_all r n (2 ^ 64) lt fits) spelled)

-- a record that begins with no position
pub unplaced : (told : Option Contents) (ps : List Put) (n : ℕ) (found : Bool) (out key seen shown : List ℕ) (e : StoreError) →
    IfSome told (λ d. IsBody (body_at (with_all d ps) 3 key) found out) → found ≡ true → seen ≡ out → shown ≡ out → n < 2 ^ 64 → BeginsWithNone number_text IsNumber seen → IfDamage e (λ d. d ≡ Bad 3 key shown) →
    IfSome told (λ c. IfDamage e (UnplacedBelow n (with_all c ps)))
unplaced None ps n found out key seen shown e finds there is also fits none shows = tt
unplaced (Some c) ps n found out key seen shown e finds there is also fits none shows =
    unplaced_at (with_all c ps) n key out e (subst (λ b. IsBody (body_at (with_all c ps) 3 key) b out) there finds) fits (subst (BeginsWithNone number_text IsNumber) is none)
    (subst (λ b. IfDamage e (λ d. d ≡ Bad 3 key b)) also shows)

-- the place that was found is that of the history
module _ (f : List ℕ → List ℕ) (files t : Table) (log : List Logged) (h : List Revision) (spelled : IsHistory f files log h) (texts : AreTexts log t) (c : Contents) (table : c 3 ≡ t) (n : ℕ) (fits : n < 2 ^ 64) (counted : n ≡ length log) where
  held : (id : Id) (body : List ℕ) → body_at c 3 id.0 ≡ Some body → get t id.0 ≡ Some body
  held id body e = ap (λ (m : Table). get m id.0) (sym table) ∙ e

  -- no two texts of one id
  pub placed_is : (id : Id) (at : Option ℕ) (text : List ℕ) → IsPlaced c n id at text → at ≡ place_of h id
  placed_is id None text none = by (place_of h id) refl
    where
      by : (o : Option ℕ) → place_of h id ≡ o → None ≡ o
      by None e = refl
      by (Some p) e =
          let has = place_has h id p e in
          let l = within log p (subst (λ m. p < m) spelled.long (place_within h id p e)) in
          let same : id_of l.0.id ≡ id = sym (ap (λ (v : Revision). v.id) (spelled.each p l.0 has.0 l.1 has.1).made) ∙ has.2 in
          absurd (let both : None ≡ Some _ = sym none ∙ ap (λ (m : Table). get m id.0) table ∙ ap (λ (i : Id). get t i.0) (sym same) ∙ texts.each p l.0 l.1 in cc)
  placed_is id (Some r) text is =
      let o = texts.only id.0 (number_text r ++ text) (held id (number_text r ++ text) is.0) in
      let again : number_text r ++ text ≡ number_text o.0 ++ o.1.text = one (get t id.0) _ _ (held id (number_text r ++ text) is.0) (ap (get t) (sym o.3) ∙ texts.each o.0 o.1 o.2) in
      let lt : o.0 < n = subst (λ m. o.0 < m) (sym counted) (inside log o.0 o.1 o.2) in
      let same : r ≡ o.0 = (number_apart r o.0 text o.1.text (below_all r n (2 ^ 64) is.1 fits) (below_all o.0 n (2 ^ 64) lt fits) again).0 in
      let v = within h o.0 (subst (λ m. o.0 < m) (sym spelled.long) (inside log o.0 o.1 o.2)) in
      let named : v.0.id ≡ id = ap (λ (x : Revision). x.id) (spelled.each o.0 o.1 v.0 o.2 v.1).made ∙ ap id_of o.3 in
      ap Some same ∙ at_place (place_of h id) refl o.0 (v.0, v.1, named)
    where
      one : (x : Option (List ℕ)) (a b : List ℕ) → x ≡ Some a → x ≡ Some b → a ≡ b
      one x a b p q = cc

      at_place : (o : Option ℕ) → place_of h id ≡ o → (q : ℕ) → (v : Revision) × (slice_get h q ≡ Some v) × (v.id ≡ id) → Some q ≡ o
      at_place None e q has = absurd (no_place h id e q has)
      at_place (Some p) e q has = ap Some ((history_is_grown f files log h spelled).differ id q p has (place_has h id p e))

one_body : (x : Option (List ℕ)) (a b : List ℕ) → x ≡ Some a → x ≡ Some b → a ≡ b
one_body x a b p q = cc

pub never_unplaced : (log : List Logged) (t : Table) → AreTexts log t → (c : Contents) → c 3 ≡ t → (n : ℕ) (d : Damage) → n ≡ length log → UnplacedBelow n c d → ⊥
never_unplaced log t texts c table n (Missing tab key) counted wrong = wrong
never_unplaced log t texts c table n (Bad tab key body) counted wrong =
    let found : get t key ≡ Some body = ap (λ (m : Table). get m key) (sym table) ∙ wrong.1 in
    let o = texts.only key body found in
    let is : body ≡ number_text o.0 ++ o.1.text = one_body (get t key) body (number_text o.0 ++ o.1.text) found (ap (get t) (sym o.3) ∙ texts.each o.0 o.1 o.2) in
    wrong.2 o.0 o.1.text (subst (λ m. o.0 < m) (sym counted) (inside log o.0 o.1 o.2)) is

pub shown_place : (c : Contents) (n : ℕ) (d : Damage) → UnplacedBelow n c d → IsShown c d
shown_place c n (Missing tab key) wrong = absurd wrong
shown_place c n (Bad tab key body) wrong = ap (λ t. body_at c t key) wrong.0 ∙ wrong.1
