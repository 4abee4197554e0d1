-- The words of steps are kept, where the words before them are.
use Rattle.std.proofs.Common.{◌≡◌, ◌∙◌, ℕ, zero, suc, ◌+◌, ◌-◌, ◌^◌, ◌<◌, ◌≤◌, Bool, true, false, List, [], ◌∷◌, ◌++◌, map, length, get_or, take, drop, Some, sym, ap, subst, arith, refl}
use Rattle.std.specs.Prelude.{slice_get, nat_lt}
use Rattle.std.proofs.Math.Pow.{pow_mono}
use Rattle.std.proofs.Math.Nat.{mod-eq_of_lt}
use Rattle.std.proofs.lemmas.List.{get_or-take, get_or-drop, get_or_append_left, get_or-append_right, length-map, length-take-le, length-drop}
use Rattle.std.proofs.lemmas.List.Elements.{All-weaker}
use Rattle.std.proofs.lemmas.Option.{get_or_from_slice_get}
use Rattle.std.proofs.lemmas.Bool.{ltb-true, ltb-false}
use Rattle.bsv_lemmas.proofs.Places.{item_there, mapped_at}
use Rattle.bsv_bits.specs.Words.{Bits}
use Rattle.bsv_design.specs.design.Bodies.{at}
use Rattle.bsv_design.specs.design.Words.{or_zero}
use Rattle.bsv_net.specs.Equations.{computed}
use Rattle.bsv_net.specs.declared.node.NetNode.{NetNode}
use Rattle.bsv_net.specs.declared.node.NetNode.TheVariants as net
use Rattle.bsv_engine.specs.declared.run.Run.{Run}
use Rattle.bsv_engine.specs.declared.run.Run.TheVariants as run
use Rattle.bsv_engine.specs.Cells.{IsSolved, IsKept, KeptTo}
use Rattle.bsv_engine.specs.Numbers.{not_number, not_within, and_number, and_within, or_number, or_within, xor_number, xor_within, add_number, add_within, sub_number, sub_within, mul_number, mul_within, same_number, same_within, less_number, less_within, less_signed_number, less_signed_within, shl_number, shl_within, shr_number, shr_within, sar_number, sar_within, known_number, known_within, pick_number, pick_within, slice_number, slice_within, join_number, join_within, extended_number, extended_within, sign_extended_number, sign_extended_within}
use Rattle.bsv_engine.specs.Rights.{not_node, not_right, and_node, and_right, or_node, or_right, xor_node, xor_right, add_node, add_right, sub_node, sub_right, mul_node, mul_right, same_node, same_right, less_node, less_right, less_signed_node, less_signed_right, shl_node, shl_right, shr_node, shr_right, sar_node, sar_right, known_node, known_right, pick_node, pick_right, slice_node, slice_right, join_node, join_right, extended_node, extended_right, sign_extended_node, sign_extended_right}
use Rattle.bsv_engine.specs.Runs.{size, is_single, Within, numbers, lower, Loads, Stand, Stands}
use Rattle.bsv_engine.proofs.FormLaws.{IsRead, AreRead, not_law, and_law, or_law, xor_law, add_law, sub_law, mul_law, same_law, less_law, less_signed_law, shl_law, shr_law, sar_law, known_law, pick_law, slice_law, join_law, extended_law, sign_extended_law}

-- ---- places of lists

slice_get-take : {A : Type 0} (n : ℕ) (xs : List A) (k : ℕ) → k < n → slice_get (take n xs) k ≡ slice_get xs k
slice_get-take zero xs k l = absurd (omega arith)
slice_get-take (suc n) [] k l = refl
slice_get-take (suc n) (x ∷ xs) zero l = refl
slice_get-take (suc n) (x ∷ xs) (suc k) l = slice_get-take n xs k (omega arith)

slice_get-drop : {A : Type 0} (n : ℕ) (xs : List A) (j : ℕ) → slice_get (drop n xs) j ≡ slice_get xs (n + j)
slice_get-drop zero xs j = ap (slice_get xs) (omega arith)
slice_get-drop (suc n) [] j = refl
slice_get-drop (suc n) (x ∷ xs) j = slice_get-drop n xs j ∙ ap (slice_get (x ∷ xs)) more
  where
    more : suc (n + j) ≡ suc n + j
    more = omega arith

node_there : {S : Type 0} (of : S → NetNode) (steps : List S) (nodes : List NetNode) (place : ℕ) → map of steps ≡ take (length steps) (drop place nodes)
    → (j : ℕ) (x : S) → j < length steps → slice_get steps j ≡ Some x → slice_get nodes (place + j) ≡ Some (of x)
node_there of steps nodes place same j x l there =
    sym (slice_get-drop place nodes j) ∙ sym (slice_get-take (length steps) (drop place nodes) j l) ∙ ap (λ ys. slice_get ys j) (sym same) ∙ mapped_at of steps j x there

-- ---- the places of a run are there

pub run_within : (before own : List ℕ) (nodes : List NetNode) (r : Run) → Stands before own nodes r → Within (length before) r
run_within before own nodes run.One stand = tt
run_within before own nodes (run.Input xs) stand = tt
run_within before own nodes (run.Register xs) stand = tt
run_within before own nodes (run.Not xs) stand = All-weaker (not_right before) (not_within (length before)) (λ x h. h.0) xs stand.right
run_within before own nodes (run.And xs) stand = All-weaker (and_right before) (and_within (length before)) (λ x h. h.0) xs stand.right
run_within before own nodes (run.Or xs) stand = All-weaker (or_right before) (or_within (length before)) (λ x h. h.0) xs stand.right
run_within before own nodes (run.Xor xs) stand = All-weaker (xor_right before) (xor_within (length before)) (λ x h. h.0) xs stand.right
run_within before own nodes (run.Add xs) stand = All-weaker (add_right before) (add_within (length before)) (λ x h. h.0) xs stand.right
run_within before own nodes (run.Sub xs) stand = All-weaker (sub_right before) (sub_within (length before)) (λ x h. h.0) xs stand.right
run_within before own nodes (run.Mul xs) stand = All-weaker (mul_right before) (mul_within (length before)) (λ x h. h.0) xs stand.right
run_within before own nodes (run.Same xs) stand = All-weaker (same_right before) (same_within (length before)) (λ x h. h.0) xs stand.right
run_within before own nodes (run.Less xs) stand = All-weaker (less_right before) (less_within (length before)) (λ x h. h.0) xs stand.right
run_within before own nodes (run.LessSigned xs) stand = All-weaker (less_signed_right before) (less_signed_within (length before)) (λ x h. h.0) xs stand.right
run_within before own nodes (run.Shl xs) stand = All-weaker (shl_right before) (shl_within (length before)) (λ x h. h.0) xs stand.right
run_within before own nodes (run.Shr xs) stand = All-weaker (shr_right before) (shr_within (length before)) (λ x h. h.0) xs stand.right
run_within before own nodes (run.Sar xs) stand = All-weaker (sar_right before) (sar_within (length before)) (λ x h. h.0) xs stand.right
run_within before own nodes (run.Known xs) stand = All-weaker (known_right before) (known_within (length before)) (λ x h. tt) xs stand.right
run_within before own nodes (run.Pick xs) stand = All-weaker (pick_right before) (pick_within (length before)) (λ x h. h.0) xs stand.right
run_within before own nodes (run.Slice xs) stand = All-weaker (slice_right before) (slice_within (length before)) (λ x h. h.0) xs stand.right
run_within before own nodes (run.Join xs) stand = All-weaker (join_right before) (join_within (length before)) (λ x h. h.0) xs stand.right
run_within before own nodes (run.Extended xs) stand = All-weaker (extended_right before) (extended_within (length before)) (λ x h. h.0) xs stand.right
run_within before own nodes (run.SignExtended xs) stand = All-weaker (sign_extended_right before) (sign_extended_within (length before)) (λ x h. h.0) xs stand.right

-- ---- steps after words that are kept

module _ (inputs registers : List Bits) (nodes : List NetNode) (us ns vs : List ℕ) (ws : List Bits) (place : ℕ) (solved : IsSolved inputs registers nodes us ws) (before : KeptTo place us ns vs ws) (long : length us ≡ length nodes) (room : length ns ≡ length nodes) (there : place ≤ length nodes) where
  -- the words before the node at a place
  abbrev seen : ℕ → List Bits
  seen j = take (place + j) ws

  small : (k : ℕ) → k < length us → get_or us k 0 ≤ 64 → (at ws k).value < 2 ^ 64
  small k l h =
      let fits = solved.fits k l in
      let below : (at ws k).value < 2 ^ get_or us k 0 = subst (λ u. (at ws k).value < 2 ^ u) fits.same_width fits.word.below in
      let p : 2 ^ get_or us k 0 ≤ 2 ^ 64 = pow_mono {i = get_or us k 0} {j = 64} h in
      omega arith

  reads : (j : ℕ) → AreRead (take place us) (take place ns) (at (seen j))
  reads j a l n =
      let short : length (take place us) ≡ place = length-take-le place us (omega arith) in
      let within : a < place = omega arith in
      let width : get_or (take place us) a 0 ≡ get_or us a 0 = get_or-take place us a 0 within in
      let number : get_or (take place ns) a 0 ≡ get_or ns a 0 = get_or-take place ns a 0 within in
      let narrow : get_or us a 0 ≤ 64 = subst (λ u. u ≤ 64) width n in
      let fits = solved.fits a (omega arith) in
      let same : at ws a ≡ at (seen j) a = ap or_zero (sym (slice_get-take (place + j) ws a (omega arith))) in
      let is : IsRead (get_or (take place ns) a 0) (get_or (take place us) a 0) (at ws a) = record {
        is_value = number ∙ (before a within).as_narrow narrow;
        is_width = width ∙ sym fits.same_width;
        some = fits.word.some;
        most = subst (λ u. u ≤ 64) (sym fits.same_width) narrow;
        below = fits.word.below;
      } in
      subst (λ w. IsRead (get_or (take place ns) a 0) (get_or (take place us) a 0) w) same is

  module _ {S : Type 0} (fits : List ℕ → S → Type 0) (of : S → NetNode) (number : S → ℕ) (base : List ℕ) (steps : List S)
      (law : (j : ℕ) (x : S) → fits base x → (computed inputs registers (at (seen j)) (of x)).value < 2 ^ 64 → number x ≡ (computed inputs registers (at (seen j)) (of x)).value)
      (stand : Stand fits of base (drop place us) (drop place nodes) steps) (end : place + length steps ≤ length nodes) (more : List ℕ) where
    abbrev written : List ℕ
    written = take place ns ++ (map number steps ++ more)

    abbrev Kept : ℕ → Type 0
    Kept k = IsKept (get_or us k 0) (get_or written k 0) (get_or vs k 0) (at ws k)

    front : length (take place ns) ≡ place
    front = length-take-le place ns (omega arith)

    earlier : (k : ℕ) → k < place → Kept k
    earlier k l =
        let same : get_or written k 0 ≡ get_or ns k 0 = get_or_append_left (take place ns) (map number steps ++ more) 0 k (omega (arith, front)) ∙ get_or-take place ns k 0 l in
        subst (λ n. IsKept (get_or us k 0) n (get_or vs k 0) (at ws k)) (sym same) (before k l)

    step_at : (j : ℕ) → j < length steps → Kept (place + j)
    step_at j l =
        let item = item_there steps j l in
        let x = item.0 in
        let node = node_there of steps nodes place stand.same j x l item.1 in
        let fit : fits base x = subst (fits base) (get_or_from_slice_get steps j x x item.1) (stand.right j x l) in
        let own : length (drop place us) ≡ length us - place = length-drop place us in
        let cut : length (take (length steps) (drop place us)) ≡ length steps = length-take-le (length steps) (drop place us) (omega arith) in
        let width : get_or (take (length steps) (drop place us)) j 0 ≡ get_or us (place + j) 0 = get_or-take (length steps) (drop place us) j 0 l ∙ get_or-drop place us j 0 in
        let narrow : get_or us (place + j) 0 ≤ 64 = subst (λ u. u ≤ 64) width (stand.narrow j 0 (omega arith)) in
        let word : at ws (place + j) ≡ computed inputs registers (at (seen j)) (of x) = solved.words (place + j) (of x) node in
        let here : get_or written (place + j) 0 ≡ number x = (
        get_or-append_right (take place ns) (map number steps ++ more) place (place + j) 0 front (omega arith)
        ∙ ap (λ i. get_or (map number steps ++ more) i 0) (omega arith)
        ∙ get_or_append_left (map number steps) more 0 j (omega (arith, length-map steps number))
        ∙ get_or_from_slice_get (map number steps) j (number x) 0 (mapped_at number steps j x item.1)) in
        let below = subst (λ (w : Bits). w.value < 2 ^ 64) word (small (place + j) (omega arith) narrow) in
        record {
          as_narrow = λ h. here ∙ law j x fit below ∙ ap (λ (w : Bits). w.value) (sym word);
          as_wide = λ h. absurd (omega arith);
        }

    stand_keeps : KeptTo (place + length steps) us written vs ws
    stand_keeps k l = of_test (nat_lt k place) refl
      where
        of_test : (b : Bool) → nat_lt k place ≡ b → Kept k
        of_test true e = earlier k (ltb-true k place e)
        of_test false e =
            let behind : place ≤ k = ltb-false k place e in
            let same : place + (k - place) ≡ k = omega arith in
            subst Kept same (step_at (k - place) (omega arith))

  pub run_keeps : (r : Run) → is_single r ≡ false → Stands (take place us) (drop place us) (drop place nodes) r → place + size r ≤ length nodes → (more : List ℕ)
      → KeptTo (place + size r) us (take place ns ++ (numbers inputs registers (take place ns) r ++ more)) vs ws
  run_keeps run.One e stand end more = absurd (let n : ⊥ = cc in n)
  run_keeps (run.Input xs) e stand end more = stand_keeps Loads net.Input (lower inputs) [] xs (λ j x h low. mod-eq_of_lt low) stand end more
  run_keeps (run.Register xs) e stand end more = stand_keeps Loads net.Register (lower registers) [] xs (λ j x h low. mod-eq_of_lt low) stand end more
  run_keeps (run.Not xs) e stand end more = stand_keeps not_right not_node (not_number (take place ns)) (take place us) xs (λ j x h low. not_law (take place us) (take place ns) inputs registers (at (seen j)) (reads j) x h) stand end more
  run_keeps (run.And xs) e stand end more = stand_keeps and_right and_node (and_number (take place ns)) (take place us) xs (λ j x h low. and_law (take place us) (take place ns) inputs registers (at (seen j)) (reads j) x h) stand end more
  run_keeps (run.Or xs) e stand end more = stand_keeps or_right or_node (or_number (take place ns)) (take place us) xs (λ j x h low. or_law (take place us) (take place ns) inputs registers (at (seen j)) (reads j) x h) stand end more
  run_keeps (run.Xor xs) e stand end more = stand_keeps xor_right xor_node (xor_number (take place ns)) (take place us) xs (λ j x h low. xor_law (take place us) (take place ns) inputs registers (at (seen j)) (reads j) x h) stand end more
  run_keeps (run.Add xs) e stand end more = stand_keeps add_right add_node (add_number (take place ns)) (take place us) xs (λ j x h low. add_law (take place us) (take place ns) inputs registers (at (seen j)) (reads j) x h) stand end more
  run_keeps (run.Sub xs) e stand end more = stand_keeps sub_right sub_node (sub_number (take place ns)) (take place us) xs (λ j x h low. sub_law (take place us) (take place ns) inputs registers (at (seen j)) (reads j) x h) stand end more
  run_keeps (run.Mul xs) e stand end more = stand_keeps mul_right mul_node (mul_number (take place ns)) (take place us) xs (λ j x h low. mul_law (take place us) (take place ns) inputs registers (at (seen j)) (reads j) x h) stand end more
  run_keeps (run.Same xs) e stand end more = stand_keeps same_right same_node (same_number (take place ns)) (take place us) xs (λ j x h low. same_law (take place us) (take place ns) inputs registers (at (seen j)) (reads j) x h) stand end more
  run_keeps (run.Less xs) e stand end more = stand_keeps less_right less_node (less_number (take place ns)) (take place us) xs (λ j x h low. less_law (take place us) (take place ns) inputs registers (at (seen j)) (reads j) x h) stand end more
  run_keeps (run.LessSigned xs) e stand end more = stand_keeps less_signed_right less_signed_node (less_signed_number (take place ns)) (take place us) xs (λ j x h low. less_signed_law (take place us) (take place ns) inputs registers (at (seen j)) (reads j) x h) stand end more
  run_keeps (run.Shl xs) e stand end more = stand_keeps shl_right shl_node (shl_number (take place ns)) (take place us) xs (λ j x h low. shl_law (take place us) (take place ns) inputs registers (at (seen j)) (reads j) x h) stand end more
  run_keeps (run.Shr xs) e stand end more = stand_keeps shr_right shr_node (shr_number (take place ns)) (take place us) xs (λ j x h low. shr_law (take place us) (take place ns) inputs registers (at (seen j)) (reads j) x h) stand end more
  run_keeps (run.Sar xs) e stand end more = stand_keeps sar_right sar_node (sar_number (take place ns)) (take place us) xs (λ j x h low. sar_law (take place us) (take place ns) inputs registers (at (seen j)) (reads j) x h) stand end more
  run_keeps (run.Known xs) e stand end more = stand_keeps known_right known_node (known_number (take place ns)) (take place us) xs (λ j x h low. known_law (take place us) (take place ns) inputs registers (at (seen j)) (reads j) x h) stand end more
  run_keeps (run.Pick xs) e stand end more = stand_keeps pick_right pick_node (pick_number (take place ns)) (take place us) xs (λ j x h low. pick_law (take place us) (take place ns) inputs registers (at (seen j)) (reads j) x h) stand end more
  run_keeps (run.Slice xs) e stand end more = stand_keeps slice_right slice_node (slice_number (take place ns)) (take place us) xs (λ j x h low. slice_law (take place us) (take place ns) inputs registers (at (seen j)) (reads j) x h) stand end more
  run_keeps (run.Join xs) e stand end more = stand_keeps join_right join_node (join_number (take place ns)) (take place us) xs (λ j x h low. join_law (take place us) (take place ns) inputs registers (at (seen j)) (reads j) x h) stand end more
  run_keeps (run.Extended xs) e stand end more = stand_keeps extended_right extended_node (extended_number (take place ns)) (take place us) xs (λ j x h low. extended_law (take place us) (take place ns) inputs registers (at (seen j)) (reads j) x h) stand end more
  run_keeps (run.SignExtended xs) e stand end more = stand_keeps sign_extended_right sign_extended_node (sign_extended_number (take place ns)) (take place us) xs (λ j x h low. sign_extended_law (take place us) (take place ns) inputs registers (at (seen j)) (reads j) x h) stand end more
