-- The orders of ids, and that a query has one answer.
use Rattle.std.specs.Prelude.{All, map, unwrap_or}
use Rattle.std.proofs.Common.{◌≡◌, List, [], ◌∷◌, length, refl, subst}
use Rattle.std.proofs.lemmas.Cmp.{nat_cmp_total, on_total}
use Rattle.std.proofs.lemmas.List.Elements.{All-head, All-tail}
use Rattle.mtn_base.specs.declared.id.Id.{Id}
use Rattle.mtn_history_laws.specs.History.{Revision}
use Rattle.mtn_replay.specs.Making.{place_of}
use Rattle.mtn_answers.specs.declared.query.Line.{Line}
use Rattle.mtn_answers.specs.declared.query.Query.{Query}
use Rattle.mtn_answers.specs.declared.query.Query.TheVariants.{Parents, Children, Ancestors, Descendents, CommonAncestors, EraseAncestors, Toposort, AncestryDifference, Leaves, Roots}
use Rattle.mtn_answers.specs.Lines.{HasParents, IsGraph}
use Rattle.mtn_base.specs.Lists.{IsListOf}
use Rattle.mtn_answers.specs.Queries.{by_place, order_of, IsAnswer, IsHeld, IsParent}
use Rattle.mtn_base.specs.Ids.{by_id}
use Rattle.mtn_base.proofs.IdOrder.{by_id_total, one_way_of, OneWay}
use Rattle.mtn_answers.proofs.Lists.{one_list_of}

pub one_way_id : OneWay by_id
one_way_id = one_way_of by_id_total

pub one_way_place : (h : List Revision) → OneWay (by_place h)
one_way_place h = one_way_of (on_total (λ (x : Id). unwrap_or (place_of h x) (length h)) nat_cmp_total)

pub one_way : (h : List Revision) (q : Query) → OneWay (order_of h q)
one_way h (Parents r) = one_way_id
one_way h (Children r) = one_way_id
one_way h (Ancestors of) = one_way_id
one_way h (Descendents of) = one_way_id
one_way h (CommonAncestors r others) = one_way_id
one_way h (EraseAncestors of) = one_way_id
one_way h (Toposort of) = one_way_place h
one_way h (AncestryDifference r without) = one_way_place h
one_way h Leaves = one_way_id
one_way h Roots = one_way_id

pub one_answer : (h : List Revision) (q : Query) (a b : List Id) → IsAnswer h q a → IsAnswer h q b → a ≡ b
one_answer h q a b x y = one_list_of (order_of h q) _ (one_way h q) a b x y

one_line : (h : List Revision) (k l : Line) → k.id ≡ l.id → HasParents h k → HasParents h l → k ≡ l
one_line h k l head p q =
    let parents : k.parents ≡ l.parents = one_list_of by_id (λ x. IsParent h x l.id) one_way_id k.parents l.parents (subst (λ i. IsListOf by_id (λ x. IsParent h x i) k.parents) head p) q in
    λ i. record { id = head i; parents = parents i }

one_lines : (h : List Revision) (a b : List Line) → map (λ (l : Line). l.id) a ≡ map (λ (l : Line). l.id) b → All (HasParents h) a → All (HasParents h) b → a ≡ b
one_lines h [] [] same p q = refl
one_lines h [] (l ∷ ls) same p q = cc
one_lines h (k ∷ ks) [] same p q = cc
one_lines h (k ∷ ks) (l ∷ ls) same p q =
    let first : k ≡ l = one_line h k l (let head : k.id ≡ l.id = cc in head) (All-head (HasParents h) k ks p) (All-head (HasParents h) l ls q) in
    let more : ks ≡ ls = one_lines h ks ls (let rest : map (λ (l : Line). l.id) ks ≡ map (λ (l : Line). l.id) ls = cc in rest) (All-tail (HasParents h) k ks p) (All-tail (HasParents h) l ls q) in
    λ i. first i ∷ more i

pub one_graph : (h : List Revision) (a b : List Line) → IsGraph h a → IsGraph h b → a ≡ b
one_graph h a b x y = one_lines h a b (one_list_of by_id (IsHeld h) one_way_id _ _ x.ids y.ids) x.parents y.parents
