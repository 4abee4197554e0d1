-- What imports add to the files goes after those that wait.
use Rattle.std.proofs.Common.{◌≡◌, ℕ, suc, ◌<◌, ◌≤◌, Bool, true, false, if◌then◌else◌, List, [], ◌∷◌, ◌++◌, length, drop, get_or, refl, ap, sym, ◌∙◌, drop-cons, append_assoc, append-nil, length-append, arith}
use Rattle.std.specs.List.{list_any}
use Rattle.std.specs.Str.{bytes_eq}
use Rattle.bsv_ast.specs.declared.package.Item.{Item}
use Rattle.bsv_ast.specs.declared.package.Item.TheVariants as item
use Rattle.bsv_flow.specs.LoadOrder.{file_of, is_given, with_item, with_items}

abbrev Extends : List (List ℕ) → List (List ℕ) → Type 0
Extends queue longer = (more : List (List ℕ)) × (longer ≡ queue ++ more)

same_queue : (queue : List (List ℕ)) → Extends queue queue
same_queue queue = ([], sym (append-nil queue))

by_tests : (queue : List (List ℕ)) (name : List ℕ) (given waits : Bool) → Extends queue (if given then queue else (if waits then queue else queue ++ name ∷ []))
by_tests queue name true waits = same_queue queue
by_tests queue name false true = same_queue queue
by_tests queue name false false = (name ∷ [], refl)

with_item_extends : (first : List ℕ) (queue : List (List ℕ)) (x : Item) → Extends queue (with_item first queue x)
with_item_extends first queue (item.Import s x) =
    by_tests queue (file_of first x.«package».name) (is_given x.«package».name) (list_any (bytes_eq (file_of first x.«package».name)) queue)
with_item_extends first queue (item.Typedef s x) = same_queue queue
with_item_extends first queue (item.Interface s x) = same_queue queue
with_item_extends first queue (item.Function s x) = same_queue queue
with_item_extends first queue (item.Module s x) = same_queue queue

-- items add files at the end
pub with_items_extends : (first : List ℕ) (queue : List (List ℕ)) (xs : List Item) → (more : List (List ℕ)) × (with_items first queue xs ≡ queue ++ more)
with_items_extends first queue [] = same_queue queue
with_items_extends first queue (x ∷ xs) =
    let one = with_item_extends first queue x in
    let others = with_items_extends first (with_item first queue x) xs in
    (one.0 ++ others.0, others.1 ∙ ap (λ (q : List (List ℕ)). q ++ others.0) one.1 ∙ append_assoc queue one.0 others.0)

-- no file is lost
pub with_items_longer : (first : List ℕ) (queue : List (List ℕ)) (xs : List Item) → length queue ≤ length (with_items first queue xs)
with_items_longer first queue xs =
    let longer = with_items_extends first queue xs in
    omega (arith, ap length longer.1, length-append queue longer.0)

-- where the files are too many after one item, they are after all
pub too_many_after : (first : List ℕ) (queue after : List (List ℕ)) (xs : List Item) (i n : ℕ) (x : Item) → i < length xs → x ≡ get_or xs i x → after ≡ with_item first queue x
    → n < length after → n < length (with_items first queue (drop i xs))
too_many_after first queue after xs i n x below at is many =
    let split : drop i xs ≡ x ∷ drop (suc i) xs = drop-cons xs i x below ∙ ap (λ y. y ∷ drop (suc i) xs) (sym at) in
    let longer : length (with_item first queue x) ≤ length (with_items first (with_item first queue x) (drop (suc i) xs)) = with_items_longer first (with_item first queue x) (drop (suc i) xs) in
    let same : length after ≡ length (with_item first queue x) = ap length is in
    rw split (omega (arith, longer, same, many))
