use Rattle.std.specs.Prelude.{Contains}
use Rattle.std.proofs.Common.{◌≡◌, ◌<◌, ℕ, Some, cond, ◌∷◌, [], ◌++◌, sym, ◌∙◌, subst, ap, length, nat_eq, rules}
use Rattle.std.specs.Cmp.Lexicographic.{pointwise}
use Rattle.mtn_ancestry.specs.Log.{id_at, list_of}
use Rattle.mtn_ancestry.proofs.Placing.{places_kept, places_pushed, place_in}
use Rattle.mtn_ancestry.proofs.graph.Graph.push.Goals as goal

pub invariant_of-self-in_err-insert : goal.invariant_of-self-in_err-insert
invariant_of-self-in_err-insert c =
    places_kept c.self.inside.log.items c.reserve.new.self.items c.self.inside.places c.insert.new.self c.self.invariant c.reserve.ensures.items c.in_err-insert.ensures.err

pub invariant_of-self-2 : goal.invariant_of-self-2
invariant_of-self-2 c =
    let e : c.len.result ≡ length c.self.inside.log.items = search rules in
    let items : c.push.new.self.items ≡ c.self.inside.log.items ++ record { id = c.args.id; parents = c.args.parents } ∷ [] = search rules in
    places_pushed c.self.inside.log.items c.push.new.self.items (record { id = c.args.id; parents = c.args.parents }) c.self.inside.places c.insert.new.self c.self.invariant
    items
    (subst (λ l. (r : ℕ) → id_at l r ≡ Some c.args.id → ⊥) (sym c.self.view_is) c.requires.fresh)
    (subst (λ l. (p : ℕ) → Contains (list_of c.args.parents) p → p < length l) (sym c.self.view_is) c.requires.known)
    (λ q. c.in_ok-insert.ensures.updates.0 q ∙ ap (λ (n : ℕ). cond (pointwise nat_eq c.args.id.0 q) (Some n) (place_in c.self.inside.places q)) e)
