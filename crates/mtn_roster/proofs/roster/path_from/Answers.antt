-- Each step up takes a component off the path.
use Rattle.std.proofs.Common.{◌≡◌, ◌<◌, ◌++◌, ◌∷◌, [], ℕ, List, length, map, reverse, Some, get_or, refl, sym, ◌∙◌, ap, subst, arith, append_assoc, length-append, Bor}
use Rattle.std.proofs.lemmas.List.{reverse-append}
use Rattle.std.proofs.lemmas.Option.{slice_get-get_or}
use Rattle.mtn_base.specs.declared.name.NodeName.{NodeName}
use Rattle.mtn_roster.specs.declared.entry.Entry.{Entry}
use Rattle.mtn_roster.specs.declared.entry.Slot.{Slot}
use Rattle.mtn_roster.specs.declared.entry.Slot.TheVariants.{Root, Below}
use Rattle.mtn_roster.specs.Tree.{Tree, IsSane, path_up}
use Rattle.mtn_roster.specs.Index.{slot_in}
use Rattle.mtn_roster.specs.Building.{AreUps, IsUp}
use Rattle.mtn_roster.specs.Walk.{path_at}
use Rattle.mtn_roster.proofs.BySlot.{slot_is}
use Rattle.mtn_roster.proofs.Stops.{map-snoc}
use Rattle.mtn_roster.proofs.Naming.{path_below}
use Rattle.mtn_roster.proofs.roster.path_from.Goals as goal

root_left : (s : Slot) → ((p : NodeName) (a : List ℕ) → s ≡ Below p a → ⊥) → s ≡ Root
root_left Root h = refl
root_left (Below p a) h = absurd (h p a refl)

slot_read : (t : Tree) (at : ℕ) (e : Entry) (p : NodeName) (a : List ℕ) → at < length t → e ≡ get_or t at e → (get_or t at e).slot ≡ Below p a → slot_in t at ≡ Below p a
slot_read t at e p a low is slot = slot_is t at e (slice_get-get_or t at e low ∙ ap Some (sym is)) ∙ ap (λ (z : Entry). z.slot) is ∙ slot

-- the place of the parent, and the path of the child over it
climbed : (t : Tree) (ups : List ℕ) → IsSane t → AreUps t ups → (at up : ℕ) (p : NodeName) (a : List ℕ) → at < length t → slot_in t at ≡ Below p a → up ≡ get_or ups at 0
    → (up < length t) × (path_at t at ≡ path_at t up ++ a ∷ [])
climbed t ups sane are at up p a low slot is =
    let found : IsUp t (Below p a) at up = subst (λ u. IsUp t (Below p a) at u) (sym is) (subst (λ s. IsUp t s at (get_or ups at 0)) slot (are.each at low)) in
    (found.0, path_below t sane at up p a low found.0 slot found.1)

longer : (p q : List (List ℕ)) (a : List ℕ) → p ≡ q ++ a ∷ [] → length q < length p
longer p q a h = omega (arith, ap length h, length-append q (a ∷ []))

pushed : (whole here up : List (List ℕ)) (a : List ℕ) (names names' : List (Bor (List ℕ))) (b : Bor (List ℕ)) → b.now ≡ a → names' ≡ names ++ b ∷ [] → here ≡ up ++ a ∷ [] → whole ≡ here ++ reverse (map (λ b. b.now) names) → whole ≡ up ++ reverse (map (λ b. b.now) names')
pushed whole here up a names names' b is more over was =
    let back : List (List ℕ) = reverse (map (λ b. b.now) names) in
    was ∙ ap (λ p. p ++ back) over ∙ append_assoc up (a ∷ []) back
    ∙ ap (λ x. up ++ (x ∷ back)) (sym is)
    ∙ sym (ap (λ l. up ++ reverse l) (ap (map (λ b. b.now)) more ∙ map-snoc (λ b. b.now) names b) ∙ ap (λ l. up ++ l) (reverse-append (map (λ b. b.now) names) (b.now ∷ [])))

pub loop-at-smaller : goal.loop-at-smaller
loop-at-smaller c =
    let t = c.args.entries.now in
    let up = get_or c.args.ups.now c.loop-at.at 0 in
    let slot = slot_read t c.loop-at.at c.index-entries-at.result c.in-Below.parent c.in-Below.name c.loop-at.invariant.0 c.index-entries-at.is c.in-Below.is in
    longer (path_at t c.loop-at.at) (path_at t up) c.in-Below.name
    (climbed t c.args.ups.now c.requires.sane c.requires.ups c.loop-at.at up c.in-Below.parent c.in-Below.name c.loop-at.invariant.0 slot refl).1

pub loop-at-preserved : goal.loop-at-preserved
loop-at-preserved c =
    let t = c.args.entries.now in
    let up = get_or c.args.ups.now c.loop-at.at 0 in
    let slot = slot_read t c.loop-at.at c.index-entries-at.result c.in-Below.parent c.in-Below.name c.loop-at.invariant.0 c.index-entries-at.is c.in-Below.is in
    let above = climbed t c.args.ups.now c.requires.sane c.requires.ups c.loop-at.at up c.in-Below.parent c.in-Below.name c.loop-at.invariant.0 slot refl in (
      above.0,
      pushed (path_at t c.args.place) (path_at t c.loop-at.at) (path_at t up) c.in-Below.name c.loop-at.names.items c.push.new.self.items _ refl c.in_ok-push.ensures.items above.1 c.loop-at.invariant.1,
    )

pub loop-name-init : goal.loop-name-init
loop-name-init c =
    let t = c.args.entries.now in
    let held = slice_get-get_or t c.loop-at.at c.index-entries-at.result c.loop-at.invariant.0 in
    let slot : slot_in t c.loop-at.at ≡ Root = slot_is t c.loop-at.at (get_or t c.loop-at.at c.index-entries-at.result) held ∙ root_left (get_or t c.loop-at.at c.index-entries-at.result).slot c.in_default.not-Below in
    c.loop-at.invariant.1 ∙ ap (λ p. p ++ reverse (map (λ b. b.now) c.loop-at.names.items)) (ap (path_up t t) slot ∙ sym c.root-path.ensures)
