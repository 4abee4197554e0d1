-- The numbers that the statements of a module name.
use Rattle.std.proofs.Common.{◌≡◌, ◌∙◌, ℕ, suc, ◌+◌, true, List, [], ◌∷◌, ◌++◌, map, length, Some, None, Ok, refl, sym, ap, subst, arith}
use Rattle.std.specs.List.{list_all}
use Rattle.std.proofs.Math.ListN.{length-set}
use Rattle.std.proofs.lemmas.Bool.{and_from}
use Rattle.bsv_ast.specs.declared.text.Span.{Span}
use Rattle.bsv_ast.specs.declared.modules.Method.{Method as WrittenMethod}
use Rattle.bsv_ast.specs.declared.modules.ModuleStmt.{ModuleStmt as Written, roll-ModuleStmt, out-ModuleStmt, ind-ModuleStmt, map-ModuleStmt, fold-roll-ModuleStmt}
use Rattle.bsv_ast.specs.declared.modules.ModuleStmt.TheOpen.{ModuleStmt-F}
use Rattle.bsv_ast.specs.declared.modules.ModuleBranch.{ModuleBranch as WrittenBranch, roll-ModuleBranch, fold-ModuleBranch, fold-roll-ModuleBranch}
use Rattle.bsv_types.specs.declared.modules.Method.{Method}
use Rattle.bsv_types.specs.declared.modules.ModuleStmt as nodes
use Rattle.bsv_types.specs.declared.modules.ModuleStmt.{ModuleStmt, Method as MethodAt}
use Rattle.bsv_types.specs.declared.modules.ModuleStmt.TheOpen as layers
use Rattle.bsv_types.specs.declared.modules.ModuleStmt.TheViews.{rolls-Method, out-roll-ModuleStmt}
use Rattle.bsv_types.specs.declared.modules.ModuleBranch.{ModuleBranch}
use Rattle.bsv_types.specs.Methods.{Signature}
use Rattle.bsv_types.specs.Modules.{concatenated, numbers_step, own_rule, own_method, each_once}
use Rattle.bsv_types.specs.Modules as rules
use Rattle.bsv_context.specs.Methods.{method_from}
use Rattle.bsv_statements.proofs.RightCalls.{ok_is, went, there_is}
use Rattle.bsv_modules.specs.Modules.{ModuleContext, State, Run, Arm, is_free, wanted_method, with_method, method_case, method_at, done, all_in, stmt_step, arm_step, nested, direct_step, direct}
use Rattle.bsv_modules.proofs.RightMethods.{sure_is}
use Rattle.bsv_modules.proofs.MethodPlaces.{placed, one_stands, standing, all_freed, once_more}
use Rattle.bsv_modules.proofs.Numbers.{Counts, counts_none, counts_both, numbers, branch_numbers, method_numbers, Numbered, NumberedRun, instance_numbered, array_numbered, place_numbered, declare_numbered, assign_numbered, rule_numbered, EachNumbered, block_numbered, EachArm, if_numbered, for_numbered}

-- ---- nested statements

module _ (site : ModuleContext) where
  abbrev arm_in : WrittenBranch → Arm
  arm_in = fold-ModuleBranch Run Arm (stmt_step site) arm_step

  abbrev Child : Type 0
  Child = (x : Written) × NumberedRun (nested site x)

  abbrev ArmChild : Type 0
  ArmChild = (x : WrittenBranch) × NumberedRun (arm_in x).run

  each : (xs : List Child) → EachNumbered site (map (nested site) (map (λ (x : Child). x.0) xs))
  each [] = tt
  each (x ∷ xs) = (x.1, each xs)

  each_arm : (xs : List ArmChild) → EachArm site (map arm_in (map (λ (x : ArmChild). x.0) xs))
  each_arm [] = tt
  each_arm (x ∷ xs) = (x.1, each_arm xs)

  layer : (y : ModuleStmt-F Child ArmChild) → NumberedRun (stmt_step site (map-ModuleStmt Written WrittenBranch Run Arm (nested site) arm_in (map-ModuleStmt Child ArmChild Written WrittenBranch (λ x. x.0) (λ x. x.0) y)))
  layer (ModuleStmt-F.Instance s t name m) = instance_numbered site s t name.name m
  layer (ModuleStmt-F.Array s t name e) = array_numbered site s t name.name e
  layer (ModuleStmt-F.Place s name e m) = place_numbered site s name.name e m
  layer (ModuleStmt-F.Declare s d) = declare_numbered site s d
  layer (ModuleStmt-F.Assign s name e) = assign_numbered site s name.name e
  layer (ModuleStmt-F.Block s xs) = block_numbered site _ (each xs)
  layer (ModuleStmt-F.If s xs None) = if_numbered site s _ None (each_arm xs) tt
  layer (ModuleStmt-F.If s xs (Some x)) = if_numbered site s _ (Some (nested site x.0)) (each_arm xs) x.1
  layer (ModuleStmt-F.For s h x) = for_numbered site s h (nested site x.0) x.1
  layer (ModuleStmt-F.Rule s r) = rule_numbered site s r
  layer (ModuleStmt-F.Method s m) = λ st r e. absurd cc

  nested_numbered : (x : Written) → NumberedRun (nested site x)
  nested_numbered = ind-ModuleStmt (λ x. NumberedRun (nested site x)) (λ x. NumberedRun (arm_in x).run)
      (λ x y is. subst (λ z. NumberedRun (nested site (roll-ModuleStmt z))) is (subst NumberedRun (sym (fold-roll-ModuleStmt Run Arm (stmt_step site) arm_step _)) (layer y)))
      (λ x y is. subst (λ z. NumberedRun (arm_in (roll-ModuleBranch z)).run) is (subst (λ (a : Arm). NumberedRun a.run) (sym (fold-roll-ModuleBranch Run Arm (stmt_step site) arm_step _)) y.arm.1))

-- ---- the methods that stand directly in the body

-- the number of a typed statement that is a method
abbrev own_number : layers.ModuleStmt-F ModuleStmt ModuleBranch → List ℕ
own_number (layers.ModuleStmt-F.Method n) = n ∷ []
own_number _ = []

direct_is : (x : ModuleStmt) (xs : List ModuleStmt) → rules.direct (x ∷ xs) ≡ own_number (nodes.out-ModuleStmt x) ++ rules.direct xs
direct_is x xs = by (nodes.out-ModuleStmt x) refl where
  by : (y : layers.ModuleStmt-F ModuleStmt ModuleBranch) → nodes.out-ModuleStmt x ≡ y → rules.direct (x ∷ xs) ≡ own_number (nodes.out-ModuleStmt x) ++ rules.direct xs
  by (layers.ModuleStmt-F.Instance t name m) is = rw is
  by (layers.ModuleStmt-F.Array t name e) is = rw is
  by (layers.ModuleStmt-F.Place level e m) is = rw is
  by (layers.ModuleStmt-F.Declare t name e) is = rw is
  by (layers.ModuleStmt-F.Assign level e) is = rw is
  by (layers.ModuleStmt-F.Block ys) is = rw is
  by (layers.ModuleStmt-F.If bs o) is = rw is
  by (layers.ModuleStmt-F.For h y) is = rw is
  by (layers.ModuleStmt-F.Rule n) is = rw is
  by (layers.ModuleStmt-F.Method n) is = rw is

method_direct : (n : ℕ) (xs : List ModuleStmt) → rules.direct (MethodAt n ∷ xs) ≡ n ∷ rules.direct xs
method_direct n xs =
    let out = ap nodes.out-ModuleStmt (sym (rolls-Method n)) ∙ out-roll-ModuleStmt (layers.ModuleStmt-F.Method n) in
    direct_is (MethodAt n) xs ∙ ap (λ y. own_number y ++ rules.direct xs) out

-- a statement in which no method stands is none
no_method : (x : ModuleStmt) (xs : List ModuleStmt) → numbers own_method x ≡ [] → rules.direct (x ∷ xs) ≡ rules.direct xs
no_method x xs none = direct_is x xs ∙ ap (λ ns. ns ++ rules.direct xs) (by (nodes.out-ModuleStmt x) refl) where
  by : (y : layers.ModuleStmt-F ModuleStmt ModuleBranch) → nodes.out-ModuleStmt x ≡ y → own_number y ≡ []
  by (layers.ModuleStmt-F.Method n) is =
      let folded = nodes.fold_out-ModuleStmt (List ℕ) (List ℕ) (numbers_step own_method) (λ b. b.arm) x in
      let one = folded ∙ ap (λ z. numbers_step own_method (nodes.map-ModuleStmt ModuleStmt ModuleBranch (List ℕ) (List ℕ) (numbers own_method) (branch_numbers own_method) z)) is in
      let never : n ∷ [] ≡ [] = sym one ∙ none in
      absurd cc
  by _ is = refl

-- a statement directly in the body: no method, or one whose place was free
pub data Single (st : State) (r : State × ModuleStmt) : Type 0 where
  without : Numbered st r → Single st r
  method : (n : ℕ) (m : Method) → is_free n st.methods ≡ true → r.1 ≡ MethodAt n → r.0.rules ≡ st.rules → r.0.methods ≡ placed st.methods n m → Single st r

module _ (site : ModuleContext) where
  method_single : (s : Span) (m : WrittenMethod) (st : State) (r : State × ModuleStmt) → method_case site s m st ≡ Ok r → Single st r
  method_single s m st r e =
      let q = went (wanted_method site s m.name.name st) _ r e in
      let found = there_is s (method_from 0 m.name.name site.wanted) _ q.0 q.1 in
      let free = sure_is s (is_free found.0.0 st.methods) found.0 q.0 found.2 in
      let x = went (method_at site s m q.0.1 st.scopes) (λ x. done (with_method st x.0 q.0.0 x.1) (MethodAt q.0.0)) r q.2 in
      let is_open = subst (λ (p : ℕ × Signature). is_free p.0 st.methods ≡ true) free.1 free.0 in
      subst (Single st) (ok_is (with_method st x.0.0 q.0.0 x.0.1, MethodAt q.0.0) r x.2) (method q.0.0 x.0.1 is_open refl refl refl)

  direct_single : (x : Written) (st : State) (r : State × ModuleStmt) → direct site x st ≡ Ok r → Single st r
  direct_single x st r e = by (out-ModuleStmt x) e where
    by : (y : ModuleStmt-F Written WrittenBranch) → direct_step site (nested site x) y st ≡ Ok r → Single st r
    by (ModuleStmt-F.Method s m) at = method_single s m st r at
    by _ at = without (nested_numbered site x st r at)

-- statements directly in the body
pub record Directs (st : State) (q : State × List ModuleStmt) : Type 0 where
  pub counts : Counts (length st.rules) (rules.rules_of q.1) (length q.0.rules)
  pub same : rules.methods_in q.1 ≡ rules.direct q.1
  pub free : list_all (λ n. is_free n st.methods) (rules.direct q.1) ≡ true
  pub once : each_once (length st.methods) (rules.direct q.1) ≡ true
  pub stand : standing st.methods + length (rules.direct q.1) ≡ standing q.0.methods
  pub many : length q.0.methods ≡ length st.methods

no_statements : (st : State) → Directs st (st, [])
no_statements st = record { counts = counts_none (length st.rules); same = refl; free = refl; once = refl; stand = omega arith; many = refl }

-- one in which no method stands, in front of others
without_method : (st mid next : State) (x : ModuleStmt) (xs : List ModuleStmt) → Numbered st (mid, x) → Directs mid (next, xs) → Directs st (next, x ∷ xs)
without_method st mid next x xs h g =
    let none = no_method x xs h.none in
    let free = subst (λ ms. list_all (λ n. is_free n ms) (rules.direct xs) ≡ true) h.same g.free in
    let once = subst (λ ms. each_once (length ms) (rules.direct xs) ≡ true) h.same g.once in
    let stand = subst (λ ms. standing ms + length (rules.direct xs) ≡ standing next.methods) h.same g.stand in
    record {
      counts = counts_both (length st.rules) (length mid.rules) (length next.rules) (numbers own_rule x) (rules.rules_of xs) h.counts g.counts;
      same = ap (λ ns. ns ++ rules.methods_in xs) h.none ∙ g.same ∙ sym none;
      free = subst (λ ns. list_all (λ n. is_free n st.methods) ns ≡ true) (sym none) free;
      once = subst (λ ns. each_once (length st.methods) ns ≡ true) (sym none) once;
      stand = subst (λ ns. standing st.methods + length ns ≡ standing next.methods) (sym none) stand;
      many = g.many ∙ ap length h.same;
    }

-- a method in front of others
with_single : (st mid next : State) (n : ℕ) (m : Method) (xs : List ModuleStmt) → is_free n st.methods ≡ true → mid.rules ≡ st.rules → mid.methods ≡ placed st.methods n m → Directs mid (next, xs) → Directs st (next, MethodAt n ∷ xs)
with_single st mid next n m xs free same_rules same_methods g =
    let one = method_direct n xs in
    let counts = subst (λ rs. Counts (length rs) (rules.rules_of xs) (length next.rules)) same_rules g.counts in
    let others = subst (λ ms. list_all (λ k. is_free k ms) (rules.direct xs) ≡ true) same_methods g.free in
    let many = ap length same_methods ∙ length-set st.methods n (Some m) in
    let once = subst (λ k. each_once k (rules.direct xs) ≡ true) many g.once in
    let stand = subst (λ ms. standing ms + length (rules.direct xs) ≡ standing next.methods) same_methods g.stand in
    let sum : standing st.methods + suc (length (rules.direct xs)) ≡ standing next.methods = omega (arith, one_stands st.methods n m free, stand) in
    record {
      counts = subst (λ ns. Counts (length st.rules) (ns ++ rules.rules_of xs) (length next.rules)) (sym (method_numbers own_rule n)) counts;
      same = ap (λ ns. ns ++ rules.methods_in xs) (method_numbers own_method n) ∙ ap (λ ns. n ∷ ns) g.same ∙ sym one;
      free = subst (λ ns. list_all (λ k. is_free k st.methods) ns ≡ true) (sym one) (and_from (is_free n st.methods) (list_all (λ k. is_free k st.methods) (rules.direct xs)) free (all_freed st.methods n m (rules.direct xs) others));
      once = subst (λ ns. each_once (length st.methods) ns ≡ true) (sym one) (once_more st.methods n (length st.methods) m (rules.direct xs) refl free others once);
      stand = subst (λ ns. standing st.methods + length ns ≡ standing next.methods) (sym one) sum;
      many = g.many ∙ many;
    }

in_front : (st mid next : State) (x : ModuleStmt) (xs : List ModuleStmt) → Single st (mid, x) → Directs mid (next, xs) → Directs st (next, x ∷ xs)
in_front st mid next x xs (without h) g = without_method st mid next x xs h g
in_front st mid next x xs (method n m free is same_rules same_methods) g = subst (λ y. Directs st (next, y ∷ xs)) (sym is) (with_single st mid next n m xs free same_rules same_methods g)

pub all_direct : (site : ModuleContext) (ws : List Written) (st : State) (q : State × List ModuleStmt) → all_in (map (direct site) ws) st ≡ Ok q → Directs st q
all_direct site [] st q e = subst (Directs st) (ok_is (st, []) q e) (no_statements st)
all_direct site (x ∷ ws) st q e =
    let r = went (direct site x st) _ q e in
    let more = went (all_in (map (direct site) ws) r.0.0) _ q r.2 in
    subst (Directs st) (ok_is (more.0.0, r.0.1 ∷ more.0.1) q more.2) (in_front st r.0.0 more.0.0 r.0.1 more.0.1 (direct_single site x st r.0 r.1) (all_direct site ws r.0.0 more.0 more.1))
