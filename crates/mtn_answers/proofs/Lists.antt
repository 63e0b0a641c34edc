-- Lists in order: what an order and the elements tell of one.
use Rattle.std.specs.Prelude.{Contains}
use Rattle.std.specs.List.{AllByRecursion}
use Rattle.std.specs.List.Sorted.{IsStrictlySortedBy}
use Rattle.std.specs.declared.cmp.Ordering.{Ordering}
use Rattle.std.specs.declared.cmp.Ordering.TheVariants.{Less}
use Rattle.std.proofs.Common.{◌≡◌, List, [], ◌∷◌}
use Rattle.mtn_base.specs.declared.id.Id.{Id}
use Rattle.mtn_base.proofs.IdOrder.{contains_head, contains_later, one_list, OneWay}
use Rattle.mtn_base.specs.Lists.{IsListOf}

pub each_to : {X : Type 0} (P : X → Type 0) (xs : List X) → ((x : X) → Contains xs x → P x) → AllByRecursion P xs
each_to P [] all = tt
each_to P (y ∷ ys) all = (all y (contains_head y ys), each_to P ys (λ x c. all x (contains_later y ys c)))

pub sorted_nil : {X : Type 0} (order : X → X → Ordering) → IsStrictlySortedBy order []
unfolding IsStrictlySortedBy
sorted_nil order = tt

pub sorted_cons : {X : Type 0} (order : X → X → Ordering) (x : X) (xs : List X) → AllByRecursion (λ y. order x y ≡ Less) xs → IsStrictlySortedBy order xs → IsStrictlySortedBy order (x ∷ xs)
unfolding IsStrictlySortedBy
sorted_cons order x xs first rest = (first, rest)

-- the list of P is the list of Q, where they are the same
pub listed_by : (order : Id → Id → Ordering) (P Q : Id → Type 0) (ids : List Id) → ((x : Id) → P x → Q x) → ((x : Id) → Q x → P x) → IsListOf order P ids → IsListOf order Q ids
listed_by order P Q ids to from list = record { ascending = list.ascending; exact = λ x. (λ c. to x ((list.exact x).0 c), λ q. (list.exact x).1 (from x q)) }

pub one_list_of : (order : Id → Id → Ordering) (P : Id → Type 0) → OneWay order → (a b : List Id) → IsListOf order P a → IsListOf order P b → a ≡ b
one_list_of order P way a b x y = one_list order way a b x.ascending y.ascending (λ z c. (y.exact z).1 ((x.exact z).0 c)) (λ z c. (x.exact z).1 ((y.exact z).0 c))
