-- A text that one state accepted is accepted by each that holds its files and the revisions above it, and has room.
use Rattle.std.specs.Prelude.{Contains, slice_get}
use Rattle.std.proofs.Common.{◌≡◌, ℕ, List, take, Some, None, sym, ◌∙◌, subst}
use Rattle.mtn_base.specs.Hex.{id_of}
use Rattle.mtn_base.specs.declared.id.Id.{Id}
use Rattle.mtn_changes.specs.declared.change.Revision.{Revision as Spelled}
use Rattle.mtn_changes.proofs.OneValue.{same_revision}
use Rattle.mtn_history_laws.specs.History.{Revision}
use Rattle.mtn_model.specs.State.{Logged, State}
use Rattle.mtn_model.specs.Table.{Table}
use Rattle.mtn_renaming.specs.Parents.{AreKnownAlike}
use Rattle.mtn_renaming.specs.Renaming.{elsewhere, IsPart}
use Rattle.mtn_renaming.proofs.Elements.{at_contains, contains_at}
use Rattle.mtn_renaming.proofs.Judging.{judged_alike, part_knows}
use Rattle.mtn_renaming.proofs.Spelling.{moved_there, revision_at}
use Rattle.mtn_replay.specs.Lawful.{IsHistory, IsLawful, IsNext}
use Rattle.mtn_replay.specs.Making.{bad_change, bad_join, log_full, made_tree, other_manifest, refusal_of, too_long, too_many, tree_refusal, unknown_file, unknown_parent}
use Rattle.mtn_replay.proofs.Histories.{history_is_grown}
use Rattle.mtn_replay.proofs.Steps.{both_none, join_none}
use Rattle.mtn_exchange.proofs.Fronts.{Own, IsClosed, known_own, none_unknown, parents_own, rooms_own}

-- none of the things that a text is refused for
record IsFine (f : List ℕ → List ℕ) (files : Table) (h : List Revision) (new : Id) (r : Spelled) : Type 0 where
  room : log_full h ≡ None
  parents : unknown_parent h r.edges ≡ None
  changes : bad_change h 1 r.edges ≡ None
  join : bad_join h new r.edges ≡ None
  few : too_many (made_tree h new r.edges) ≡ None
  paths : too_long (made_tree h new r.edges) ≡ None
  contents : unknown_file files r.edges ≡ None
  manifest : other_manifest f (made_tree h new r.edges) r.manifest ≡ None

module _ (f : List ℕ → List ℕ) (files more : Table) (h : List Revision) (new : Id) (r : Spelled) where
  fine_of : refusal_of f files h new r ≡ None → IsFine f files h new r
  fine_of accepted =
      let t = made_tree h new r.edges in
      let a = both_none (log_full h) _ accepted in
      let b = both_none (unknown_parent h r.edges) _ a.1 in
      let c = both_none (bad_change h 1 r.edges) _ b.1 in
      let d = both_none (bad_join h new r.edges) (tree_refusal f files r t) c.1 in
      let e = both_none (too_many t) _ d.1 in
      let g = both_none (too_long t) _ e.1 in
      let i = both_none (unknown_file files r.edges) (other_manifest f t r.manifest) g.1 in
      record { room = a.0; parents = b.0; changes = c.0; join = d.0; few = e.0; paths = g.0; contents = i.0; manifest = i.1 }

  -- over other files that have the contents
  pub refiled : refusal_of f files h new r ≡ None → unknown_file more r.edges ≡ None → refusal_of f more h new r ≡ None
  refiled accepted held =
      let t = made_tree h new r.edges in
      let fine = fine_of accepted in
      join_none (log_full h) _ fine.room (join_none (unknown_parent h r.edges) _ fine.parents (join_none (bad_change h 1 r.edges) _ fine.changes (join_none (bad_join h new r.edges) _ fine.join
      (join_none (too_many t) _ fine.few (join_none (too_long t) _ fine.paths (join_none (unknown_file more r.edges) (other_manifest f t r.manifest) held fine.manifest))))))

  pub contents_known : refusal_of f files h new r ≡ None → unknown_file files r.edges ≡ None
  contents_known accepted = (fine_of accepted).contents

module _ (f : List ℕ → List ℕ) (files : Table) (log : List Logged) (h : List Revision) (is : IsHistory f files log h) (Wanted : Id → Type 0) (closed : IsClosed h Wanted) where
  module _ (u : State) (law : IsLawful f u) (k : ℕ) (own : Own f files log Wanted k) (has : (l : Logged) → Contains own.texts l → Contains u.log l) where
    -- the wanted ones over the files of the state
    filed : IsHistory f u.files own.texts own.history
    filed = record {
      long = own.spelled.long;
      each = λ j l v a b.
          let n = own.spelled.each j l v a b in
          let i = at_contains u.log l (has l (contains_at own.texts j l a)) in
          let w = revision_at f u.files u.log law.history law.log i.0 l i.1 in
          let read : w.2.read ≡ n.read = same_revision l.text w.2.read n.read w.2.spells.stanzas n.spells.stanzas w.2.spells.reads n.spells.reads in
          let contents : unknown_file u.files n.read.edges ≡ None =
          subst (λ (r : Spelled). unknown_file u.files r.edges ≡ None) read (contents_known f u.files u.files (take i.0 law.history) (id_of l.id) w.2.read w.2.accepted) in
          record {
            short = n.short;
            id = n.id;
            fresh = n.fresh;
            read = n.read;
            spells = n.spells;
            accepted = refiled f files u.files (take j own.history) (id_of l.id) n.read n.accepted contents;
            made = n.made;
          };
    }

    there : IsPart own.history law.history (elsewhere own.history law.history)
    there = moved_there f u.files own.texts u.log own.history law.history has filed law.log

    pub accepted_there : (l : Logged) (v : Revision) → slice_get h k ≡ Some v → (next : IsNext f files (take k h) l v) → Wanted (id_of l.id) → unknown_file u.files next.read.edges ≡ None → log_full law.history ≡ None →
        refusal_of f u.files law.history (id_of l.id) next.read ≡ None
    accepted_there l v at next wanted contents room =
        let new = id_of l.id in
        let r = next.read in
        let empty : log_full own.history ≡ None = rooms_own f files log h is Wanted closed k own l v at next wanted in
        let full : log_full (take k h) ≡ None = (both_none (log_full (take k h)) _ next.accepted).0 in
        let none = none_unknown own.history r.edges (parents_own f files log h is Wanted closed k own l v at next wanted) in
        let known : AreKnownAlike own.history law.history r.edges =
        part_knows own.history law.history (elsewhere own.history law.history) there (history_is_grown f files own.texts own.history own.spelled) (history_is_grown f u.files u.log law.history law.log) r.edges none in
        let here = judged_alike own.history (take k h) f u.files new r (known_own f files log h is Wanted closed k own l v at next wanted) (full ∙ sym empty) in
        judged_alike own.history law.history f u.files new r known (room ∙ sym empty) ∙ sym here ∙ refiled f files u.files (take k h) new r next.accepted contents
