-- What a merge of the tips comes to.
use Rattle.std.specs.Prelude.{◌≡◌, ◌≤◌, ◌⊎◌, ℕ, suc, List, length, Some, Ok, Err}
use Rattle.mtn_base.specs.declared.id.Id.{Id}
use Rattle.mtn_base.specs.declared.refusal.Cause.TheVariants.{Collision}
use Rattle.mtn_generated.specs.Growing.{GrowthAnswer, Grown}
use Rattle.mtn_generated.specs.Growing.Stop.{Refused}
use Rattle.mtn_generated.specs.Numbered.{Tips}
use Rattle.mtn_generated_trees.specs.Formed.{IsFormed}
use Rattle.mtn_history_laws.specs.History.{Revision, tree_at}
use Rattle.mtn_model.specs.State.{State}
use Rattle.mtn_replay.specs.Lawful.{IsHistory}
use Rattle.mtn_replay.specs.Making.{place_of}

-- the tips are the revisions at these places
pub record AreAt (h : List Revision) (tips : Tips) (left right : ℕ) : Type 0 where
  pub left_at : place_of h tips.left ≡ Some left
  pub right_at : place_of h tips.right ≡ Some right

-- What has grown from a state has one revision more at most, and both tips are one, whose tree has the form
pub record IsOneTip (f : List ℕ → List ℕ) (i m : ℕ) (s : State) (g : Grown) : Type 0 where
  pub longer : length g.state.log ≤ suc (length s.log)
  pub one : g.tips.right ≡ g.tips.left
  pub last : g.tips.last ≡ g.tips.left
  pub history : List Revision
  pub spelled : IsHistory f g.state.files g.state.log history
  pub place : ℕ
  pub at : place_of history g.tips.left ≡ Some place
  pub form : IsFormed f i m (tree_at history place)

-- the text that was made has another's id
abbrev pub IsCollision : GrowthAnswer → Type 0
IsCollision answer = (id : Id) × (answer ≡ Err (Refused (Collision id)))

abbrev pub IsJoined : (List ℕ → List ℕ) → ℕ → ℕ → State → GrowthAnswer → Type 0
IsJoined f i m s answer = ((g : Grown) × (answer ≡ Ok g) × IsOneTip f i m s g) ⊎ IsCollision answer
