-- What a history says of each revision by ids alone, so that nothing is said of the order of the log.
use Rattle.std.specs.Prelude.{ℕ, List, Option, filter_map, option_map, slice_get}
use Rattle.mtn_base.specs.declared.id.Id.{Id}
use Rattle.mtn_history_laws.specs.History.{Revision, parents_at, tree_at}
use Rattle.mtn_replay.specs.Making.{place_of}
use Rattle.mtn_roster.specs.Tree.{Tree}

-- the ids of a revision's parents, in the order of its edges, and its tree
pub record Known : Type 0 where
  pub parents : List Id
  pub tree : Tree

-- the id of the revision at r
abbrev pub id_at : List Revision → ℕ → Option Id
id_at h r = option_map (λ (v : Revision). v.id) (slice_get h r)

abbrev pub known_at : List Revision → ℕ → Known
known_at h r = record { parents = filter_map (id_at h) (parents_at h r); tree = tree_at h r }

-- the revision of an id; none where the history has no such revision
abbrev pub known_of : List Revision → Id → Option Known
known_of h id = option_map (known_at h) (place_of h id)
