-- Lists that grow by an element a turn, and the table of resolutions.
use Rattle.std.specs.Prelude.{drop, find, filter, map, not, option_and_then, slice_get, ◌||◌}
use Rattle.std.specs.BTreeMap.{BTreeMap, get, is_at}
use Rattle.std.proofs.Common.{◌≡◌, ℕ, ◌+◌, ◌<◌, Bool, true, false, cond, List, [], ◌∷◌, ◌++◌, length, take, get_or, append_assoc, Option, Some, sym, ◌∙◌, ap}
use Rattle.std.proofs.lemmas.List.{take_more, map-append}
use Rattle.std.proofs.lemmas.List.Elements.{filter-append}
use Rattle.mtn_base.proofs.Dropping.{drop_step}
use Rattle.mtn_base.proofs.Members.{taken}
use Rattle.mtn_decide.specs.declared.decision.Decision.{Decision}
use Rattle.mtn_decide.specs.declared.decision.Pending.{Pending}
use Rattle.mtn_resolve.specs.declared.resolution.Resolution.{Resolution}
use Rattle.mtn_resolve.specs.declared.subject.Subject.{Subject}
use Rattle.mtn_resolve.specs.Parts.{IsTable, undropped_after, kept_after}
use Rattle.mtn_resolve.specs.Subjects.{subject_of, subject_cmp, is_about, resolution_of}
use Rattle.mtn_resolve.specs.Overriding.{is_dropped, is_kept, new_node, reborn_of, still_pending}

-- the made list has one more part
pub grown : {X Y : Type 0} (f : List X → List Y) → ((xs ys : List X) → f (xs ++ ys) ≡ f xs ++ f ys) → (xs : List X) (i : ℕ) (x : X) (start now next : List Y) →
    i < length xs → x ≡ get_or xs i x → now ≡ start ++ f (take i xs) → next ≡ now ++ f (x ∷ []) → next ≡ start ++ f (take (i + 1) xs)
grown f over xs i x start now next lt is h g =
    g ∙ ap (λ l. l ++ f (x ∷ [])) h ∙ append_assoc start (f (take i xs)) (f (x ∷ []))
    ∙ ap (λ l. start ++ l) (sym (over (take i xs) (x ∷ [])) ∙ ap (λ y. f (take i xs ++ y ∷ [])) is ∙ ap f (sym (take_more xs i x lt)))

pub undropped_over : (rs : List Resolution) (xs ys : List Decision) → undropped_after rs (xs ++ ys) ≡ undropped_after rs xs ++ undropped_after rs ys
undropped_over rs xs ys =
    ap (map (new_node rs)) (filter-append (λ (d : Decision). not (is_dropped rs d.name)) xs ys)
    ∙ map-append (new_node rs) (filter (λ (d : Decision). not (is_dropped rs d.name)) xs) (filter (λ (d : Decision). not (is_dropped rs d.name)) ys)

pub kept_over : (rs : List Resolution) (xs ys : List Pending) → kept_after rs (xs ++ ys) ≡ kept_after rs xs ++ kept_after rs ys
kept_over rs xs ys =
    ap (λ l. map (new_node rs) (map reborn_of l)) (filter-append (λ (p : Pending). is_kept rs p.entry.name) xs ys)
    ∙ ap (map (new_node rs)) (map-append reborn_of (filter (λ (p : Pending). is_kept rs p.entry.name) xs) (filter (λ (p : Pending). is_kept rs p.entry.name) ys))
    ∙ map-append (new_node rs) (map reborn_of (filter (λ (p : Pending). is_kept rs p.entry.name) xs)) (map reborn_of (filter (λ (p : Pending). is_kept rs p.entry.name) ys))

pub pending_over : (rs : List Resolution) (xs ys : List Pending) → still_pending rs (xs ++ ys) ≡ still_pending rs xs ++ still_pending rs ys
pending_over rs xs ys = filter-append (λ (p : Pending). not (is_dropped rs p.entry.name || is_kept rs p.entry.name)) xs ys

-- one more resolution, before those of the table
pub table_more : (rs : List Resolution) (i : ℕ) (r : Resolution) (s : Subject) (old new : BTreeMap Subject ℕ) → i < length rs → r ≡ get_or rs i r → s ≡ subject_of r →
    IsTable rs (i + 1) old → ((q : Subject) → get subject_cmp new q ≡ cond (is_at (subject_cmp s) q) (Some i) (get subject_cmp old q)) → IsTable rs i new
table_more rs i r s old new lt is about table h = record {
  there = λ q.
      ap (option_and_then (slice_get rs)) (h q)
      ∙ here (is_at (subject_cmp s) q) (get subject_cmp old q) (table.there q)
      ∙ ap (λ t. cond (is_at (subject_cmp t) q) (Some r) (resolution_of (drop (i + 1) rs) q)) about
      ∙ sym (ap (find (is_about q)) (drop_step rs i r lt is));
}
  where
    at_place : slice_get rs i ≡ Some r
    at_place = let t = taken rs i lt in t.1 ∙ ap Some (sym (t.3 r) ∙ sym is)

    here : (b : Bool) (o : Option ℕ) {q : Option Resolution} → option_and_then (slice_get rs) o ≡ q → option_and_then (slice_get rs) (cond b (Some i) o) ≡ cond b (Some r) q
    here true o g = at_place
    here false o g = g
