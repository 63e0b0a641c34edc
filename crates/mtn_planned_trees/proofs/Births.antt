-- A birth of a node that a merge decides is a revision of the history.
use Rattle.std.proofs.Common.{◌≡◌, ℕ, List, None}
use Rattle.mtn_base.specs.declared.id.Id.{Id}
use Rattle.mtn_changeset_laws.proofs.Stepping.{unborn_at}
use Rattle.mtn_conflicts.specs.Result.{NoneBornIn}
use Rattle.mtn_decide.specs.Decisions.{Merge}
use Rattle.mtn_history_laws.specs.History.{Revision, IsGrown}
use Rattle.mtn_merged_trees.proofs.Again.{fresh_again}
use Rattle.mtn_plans.specs.Sides.{IsMergeAt}
use Rattle.mtn_replay.specs.Making.{place_of}
use Rattle.mtn_replay.proofs.Places.{no_place}
use Rattle.mtn_resolve.specs.declared.resolution.Resolution.{Resolution}
use Rattle.mtn_resolve.specs.Overriding.{overridden}

-- an id that is no revision's is no birth
pub none_born : (h : List Revision) → IsGrown h → (l r : Id) (m : Merge) → IsMergeAt h l r m → (rs : List Resolution) (x : Id) → place_of h x ≡ None → NoneBornIn (overridden rs m).nodes x
none_born h grown l r m at rs x fresh =
    fresh_again h at.left at.right m rs at.decides x
    (unborn_at h at.left x grown.born (no_place h x fresh))
    (unborn_at h at.right x grown.born (no_place h x fresh))
