-- Rules are numbered in the order of the text, and no method is in a block, a branch or a loop.
use Rattle.std.proofs.Common.{◌≡◌, ◌∙◌, ℕ, ◌+◌, true, List, [], ◌∷◌, ◌++◌, map, length, Option, Some, None, Ok, option_map, refl, sym, ap, ap₂, subst, arith}
use Rattle.std.specs.Prelude.{◌==◌}
use Rattle.std.proofs.lemmas.List.{length-append}
use Rattle.std.proofs.lemmas.Bool.{eq-eqb, and_parts, and_from}
use Rattle.bsv_ast.specs.declared.text.Span.{Span}
use Rattle.bsv_ast.specs.declared.expressions.Expr.{Expr as Written}
use Rattle.bsv_ast.specs.declared.types.WrittenType.{WrittenType}
use Rattle.bsv_ast.specs.declared.statements.Declaration.{Declaration}
use Rattle.bsv_ast.specs.declared.statements.Head.{Head as WrittenHead}
use Rattle.bsv_ast.specs.declared.modules.Make.{Make as WrittenMake}
use Rattle.bsv_ast.specs.declared.modules.Rule.{Rule as WrittenRule}
use Rattle.bsv_scopes.specs.Scopes.{opened, closed}
use Rattle.bsv_types.specs.declared.expressions.Expr.{Expr}
use Rattle.bsv_types.specs.declared.types.Ty.{Ty}
use Rattle.bsv_types.specs.declared.makers.Make.{Make}
use Rattle.bsv_types.specs.declared.statements.Head.{Head}
use Rattle.bsv_types.specs.declared.modules.Rule.{Rule}
use Rattle.bsv_types.specs.declared.modules.ModuleStmt.{ModuleStmt, Instance as InstanceAt, Array, Place, Declare, Assign, Block, If, For, Rule as RuleAt, Method as MethodAt, roll-ModuleStmt, map-ModuleStmt, fold-ModuleStmt, fold-roll-ModuleStmt}
use Rattle.bsv_types.specs.declared.modules.ModuleStmt.TheOpen.{ModuleStmt-F}
use Rattle.bsv_types.specs.declared.modules.ModuleStmt.TheViews.{rolls-Instance, rolls-Array, rolls-Place, rolls-Declare, rolls-Assign, rolls-Block, rolls-If, rolls-For, rolls-Rule, rolls-Method}
use Rattle.bsv_types.specs.declared.modules.ModuleBranch.{ModuleBranch, fold-ModuleBranch, fold-roll-ModuleBranch}
use Rattle.bsv_types.specs.Kinds.{integer, type_of}
use Rattle.bsv_types.specs.Expressions.{Slot, one, many}
use Rattle.bsv_types.specs.Modules.{or_empty, concatenated, numbers_step, own_rule, own_method, counts_up}
use Rattle.bsv_context.specs.Env.{variable_in}
use Rattle.bsv_statements.specs.Bodies.{Or, Scopes, with_variable, check, of_kind, declared_kind, assignable, in_head}
use Rattle.bsv_statements.proofs.RightCalls.{ok_is, went, there_is}
use Rattle.bsv_modules.specs.Modules.{ModuleContext, State, Run, task, scoped, make_at, with_rule, rule_case, rule_at, done, array_named, inside, all_in, Arm, conditions, branch, arms, last_arm, if_case, block_case, interface_at, lower_name, with_slot, instance_case, array_case, count_at, place_case, declare_case, assign_case, for_case}

-- ---- numbers that count up

-- they count up from this number on, up to that one
pub record Counts (first : ℕ) (xs : List ℕ) (last : ℕ) : Type 0 where
  pub up : counts_up first xs ≡ true
  pub many : first + length xs ≡ last

pub counts_none : (n : ℕ) → Counts n [] n
counts_none n = record { up = refl; many = omega arith }

counts_one : (n m : ℕ) → m ≡ n + 1 → Counts n (n ∷ []) m
counts_one n m is = record { up = and_from (n == n) true (eq-eqb n n refl) refl; many = omega arith }

up_both : (n m : ℕ) (xs ys : List ℕ) → n + length xs ≡ m → counts_up n xs ≡ true → counts_up m ys ≡ true → counts_up n (xs ++ ys) ≡ true
up_both n m [] ys is h g = let same : m ≡ n = omega arith in subst (λ k. counts_up k ys ≡ true) same g
up_both n m (x ∷ xs) ys is h g =
    let b = and_parts (x == n) (counts_up (n + 1) xs) h in
    and_from (x == n) (counts_up (n + 1) (xs ++ ys)) b.0 (up_both (n + 1) m xs ys (omega arith) b.1 g)

pub counts_both : (a b c : ℕ) (xs ys : List ℕ) → Counts a xs b → Counts b ys c → Counts a (xs ++ ys) c
counts_both a b c xs ys h g = record { up = up_both a b xs ys h.many h.up g.up; many = omega (arith, length-append xs ys, h.many, g.many) }

-- ---- the numbers of statements

module _ (own : ModuleStmt-F (List ℕ) (List ℕ) → List ℕ) where
  abbrev pub numbers : ModuleStmt → List ℕ
  numbers = fold-ModuleStmt (List ℕ) (List ℕ) (numbers_step own) (λ b. b.arm)

  abbrev pub branch_numbers : ModuleBranch → List ℕ
  branch_numbers = fold-ModuleBranch (List ℕ) (List ℕ) (numbers_step own) (λ b. b.arm)

  node_numbers : (y : ModuleStmt-F ModuleStmt ModuleBranch) → numbers (roll-ModuleStmt y) ≡ numbers_step own (map-ModuleStmt ModuleStmt ModuleBranch (List ℕ) (List ℕ) numbers branch_numbers y)
  node_numbers y = fold-roll-ModuleStmt (List ℕ) (List ℕ) (numbers_step own) (λ b. b.arm) y

  instance_numbers : (t : Ty) (name : List ℕ) (m : Make) → numbers (InstanceAt t name m) ≡ own (ModuleStmt-F.Instance t name m)
  instance_numbers t name m = ap numbers (sym (rolls-Instance t name m)) ∙ node_numbers (ModuleStmt-F.Instance t name m)

  array_numbers : (t : Ty) (name : List ℕ) (x : Expr) → numbers (Array t name x) ≡ own (ModuleStmt-F.Array t name x)
  array_numbers t name x = ap numbers (sym (rolls-Array t name x)) ∙ node_numbers (ModuleStmt-F.Array t name x)

  place_numbers : (level : ℕ) (x : Expr) (m : Make) → numbers (Place level x m) ≡ own (ModuleStmt-F.Place level x m)
  place_numbers level x m = ap numbers (sym (rolls-Place level x m)) ∙ node_numbers (ModuleStmt-F.Place level x m)

  declare_numbers : (t : Ty) (name : List ℕ) (x : Expr) → numbers (Declare t name x) ≡ own (ModuleStmt-F.Declare t name x)
  declare_numbers t name x = ap numbers (sym (rolls-Declare t name x)) ∙ node_numbers (ModuleStmt-F.Declare t name x)

  assign_numbers : (level : ℕ) (x : Expr) → numbers (Assign level x) ≡ own (ModuleStmt-F.Assign level x)
  assign_numbers level x = ap numbers (sym (rolls-Assign level x)) ∙ node_numbers (ModuleStmt-F.Assign level x)

  rule_numbers : (n : ℕ) → numbers (RuleAt n) ≡ own (ModuleStmt-F.Rule n)
  rule_numbers n = ap numbers (sym (rolls-Rule n)) ∙ node_numbers (ModuleStmt-F.Rule n)

  pub method_numbers : (n : ℕ) → numbers (MethodAt n) ≡ own (ModuleStmt-F.Method n)
  method_numbers n = ap numbers (sym (rolls-Method n)) ∙ node_numbers (ModuleStmt-F.Method n)

  block_numbers : (ys : List ModuleStmt) → numbers (Block ys) ≡ concatenated (map numbers ys)
  block_numbers ys = ap numbers (sym (rolls-Block ys)) ∙ node_numbers (ModuleStmt-F.Block ys)

  if_numbers : (bs : List ModuleBranch) (o : Option ModuleStmt) → numbers (If bs o) ≡ concatenated (map branch_numbers bs) ++ or_empty (option_map numbers o)
  if_numbers bs None = ap numbers (sym (rolls-If bs None)) ∙ node_numbers (ModuleStmt-F.If bs None)
  if_numbers bs (Some y) = ap numbers (sym (rolls-If bs (Some y))) ∙ node_numbers (ModuleStmt-F.If bs (Some y))

  for_numbers : (h : Head) (y : ModuleStmt) → numbers (For h y) ≡ numbers y
  for_numbers h y = ap numbers (sym (rolls-For h y)) ∙ node_numbers (ModuleStmt-F.For h y)

  arm_numbers : (test : Expr) (y : ModuleStmt) → branch_numbers (branch test y) ≡ numbers y
  arm_numbers test y = fold-roll-ModuleBranch (List ℕ) (List ℕ) (numbers_step own) (λ b. b.arm) (record { condition = test; arm = y })

-- ---- what statements are typed as

-- from one state to the other rules are counted, and no method is named or made
pub record Counted (st next : State) (rules methods : List ℕ) : Type 0 where
  pub counts : Counts (length st.rules) rules (length next.rules)
  pub none : methods ≡ []
  pub same : next.methods ≡ st.methods

abbrev pub Numbered : State → State × ModuleStmt → Type 0
Numbered st r = Counted st r.0 (numbers own_rule r.1) (numbers own_method r.1)

abbrev pub NumberedRun : Run → Type 0
NumberedRun x = (st : State) (r : State × ModuleStmt) → x st ≡ Ok r → Numbered st r

abbrev pub AllNumbered : State → State × List ModuleStmt → Type 0
AllNumbered st q = Counted st q.0 (concatenated (map (numbers own_rule) q.1)) (concatenated (map (numbers own_method) q.1))

-- nothing is counted, where no rules and no methods are made
nothing : (st : State) (ss : Scopes) (rules methods : List ℕ) → rules ≡ [] → methods ≡ [] → Counted st (scoped st ss) rules methods
nothing st ss rules methods h g = record { counts = subst (λ xs. Counts (length st.rules) xs (length st.rules)) (sym h) (counts_none (length st.rules)); none = g; same = refl }

two : (st mid next : State) (rules others methods more : List ℕ) → Counted st mid rules methods → Counted mid next others more → Counted st next (rules ++ others) (methods ++ more)
two st mid next rules others methods more h g = record {
  counts = counts_both (length st.rules) (length mid.rules) (length next.rules) rules others h.counts g.counts;
  none = ap₂ (λ (a b : List ℕ). a ++ b) h.none g.none;
  same = g.same ∙ h.same;
}

other_numbers : (st next : State) (rules others methods more : List ℕ) → rules ≡ others → methods ≡ more → Counted st next others more → Counted st next rules methods
other_numbers st next rules others methods more h g c = record { counts = subst (λ xs. Counts (length st.rules) xs (length next.rules)) (sym h) c.counts; none = g ∙ c.none; same = c.same }

leaf : (st back : State) (ss : Scopes) (x : ModuleStmt) (r : State × ModuleStmt) → scoped st ss ≡ back → numbers own_rule x ≡ [] → numbers own_method x ≡ [] → ◌≡◌ {A = Or (State × ModuleStmt)} (Ok (back, x)) (Ok r) → Numbered st r
leaf st back ss x r is h g e =
    let same = ap (λ b. (b, x)) is ∙ ok_is (back, x) r e in
    subst (Numbered st) same (nothing st ss (numbers own_rule x) (numbers own_method x) h g)

module _ (site : ModuleContext) where
  slot_more : (s : Span) (name : List ℕ) (slot : Slot) (st next : State) → with_slot s name slot st ≡ Ok next → (ss : Scopes) × (scoped st ss ≡ next)
  slot_more s name slot st next e =
      let ss = there_is s (with_variable name slot st.scopes) _ next e in
      (ss.0, ok_is (scoped st ss.0) next ss.2)

  pub instance_numbered : (s : Span) (t : WrittenType) (name : List ℕ) (m : WrittenMake) → NumberedRun (instance_case site s t name m)
  instance_numbered s t name m st r e =
      let k = went (interface_at site s t) _ r e in
      let made = went (make_at site st.scopes s m k.0) _ r k.2 in
      let own = went (lower_name s name) _ r made.2 in
      let next = went (with_slot s name (one k.0) st) _ r own.2 in
      let more = slot_more s name (one k.0) st next.0 next.1 in
      leaf st next.0 more.0 (InstanceAt (type_of k.0) own.0 made.0) r more.1 (instance_numbers own_rule (type_of k.0) own.0 made.0) (instance_numbers own_method (type_of k.0) own.0 made.0) next.2

  pub array_numbered : (s : Span) (t : WrittenType) (name : List ℕ) (c : Written) → NumberedRun (array_case site s t name c)
  unfolding count_at
  array_numbered s t name c st r e =
      let k = went (interface_at site s t) _ r e in
      let n = went (of_kind (task site) st.scopes s c integer) _ r k.2 in
      let own = went (lower_name s name) _ r n.2 in
      let next = went (with_slot s name (many k.0) st) _ r own.2 in
      let more = slot_more s name (many k.0) st next.0 next.1 in
      leaf st next.0 more.0 (Array (type_of k.0) own.0 n.0) r more.1 (array_numbers own_rule (type_of k.0) own.0 n.0) (array_numbers own_method (type_of k.0) own.0 n.0) next.2

  pub place_numbered : (s : Span) (name : List ℕ) (c : Written) (m : WrittenMake) → NumberedRun (place_case site s name c m)
  place_numbered s name c m st r e =
      let i = went (of_kind (task site) st.scopes s c integer) _ r e in
      let a = there_is s (array_named (variable_in st.scopes name)) _ r i.2 in
      let made = went (make_at site st.scopes s m a.0.1) _ r a.2 in
      leaf st st st.scopes (Place a.0.0 i.0 made.0) r refl (place_numbers own_rule a.0.0 i.0 made.0) (place_numbers own_method a.0.0 i.0 made.0) made.2

  pub declare_numbered : (s : Span) (d : Declaration) → NumberedRun (declare_case site s d)
  declare_numbered s d st r e =
      let want = went (declared_kind (task site) s d.declared) _ r e in
      let m = there_is s (check (task site) st.scopes d.value want.0) _ r want.2 in
      let k = m.0.kind in
      let own = went (lower_name s d.name.name) _ r m.2 in
      let next = went (with_slot s d.name.name (one k) st) _ r own.2 in
      let more = slot_more s d.name.name (one k) st next.0 next.1 in
      leaf st next.0 more.0 (Declare (type_of k) own.0 m.0.expr) r more.1 (declare_numbers own_rule (type_of k) own.0 m.0.expr) (declare_numbers own_method (type_of k) own.0 m.0.expr) next.2

  pub assign_numbered : (s : Span) (name : List ℕ) (c : Written) → NumberedRun (assign_case site s name c)
  assign_numbered s name c st r e =
      let v = there_is s (assignable (task site) st.scopes name) _ r e in
      let m = went (of_kind (task site) st.scopes s c v.0.1) _ r v.2 in
      leaf st st st.scopes (Assign v.0.0 m.0) r refl (assign_numbers own_rule v.0.0 m.0) (assign_numbers own_method v.0.0 m.0) m.2

  rule_counts : (st : State) (ss : Scopes) (q : Rule) → Numbered st (with_rule st ss q, RuleAt (length st.rules))
  rule_counts st ss q =
      let n = length st.rules in
      let more : length (st.rules ++ q ∷ []) ≡ n + 1 = omega (arith, length-append st.rules (q ∷ [])) in
      other_numbers st (with_rule st ss q) (numbers own_rule (RuleAt n)) (n ∷ []) (numbers own_method (RuleAt n)) [] (rule_numbers own_rule n) (rule_numbers own_method n)
      (record { counts = counts_one n (length (st.rules ++ q ∷ [])) more; none = refl; same = refl })

  pub rule_numbered : (s : Span) (r : WrittenRule) → NumberedRun (rule_case site s r)
  rule_numbered s r st q e =
      let x = went (rule_at site s r st.scopes) (λ x. done (with_rule st x.0 x.1) (RuleAt (length st.rules))) q e in
      subst (Numbered st) (ok_is (with_rule st x.0.0 x.0.1, RuleAt (length st.rules)) q x.2) (rule_counts st x.0.0 x.0.1)

  -- ---- one after the other

  abbrev pub EachNumbered : List Run → Type 0
  EachNumbered [] = Unit {0}
  EachNumbered (x ∷ xs) = NumberedRun x × EachNumbered xs

  all_numbered : (xs : List Run) (st : State) (q : State × List ModuleStmt) → EachNumbered xs → all_in xs st ≡ Ok q → AllNumbered st q
  all_numbered [] st q each e = subst (AllNumbered st) (ok_is (st, []) q e) (nothing st st.scopes [] [] refl refl)
  all_numbered (x ∷ xs) st q each e =
      let r = went (x st) _ q e in
      let more = went (all_in xs r.0.0) _ q r.2 in
      subst (AllNumbered st) (ok_is (more.0.0, r.0.1 ∷ more.0.1) q more.2)
      (two st r.0.0 more.0.0 (numbers own_rule r.0.1) (concatenated (map (numbers own_rule) more.0.1)) (numbers own_method r.0.1) (concatenated (map (numbers own_method) more.0.1)) (each.0 st r.0 r.1) (all_numbered xs r.0.0 more.0 each.1 more.1))

  pub block_numbered : (xs : List Run) → EachNumbered xs → NumberedRun (block_case xs)
  block_numbered xs each st r e =
      let q = went (all_in xs (scoped st (opened st.scopes))) _ r e in
      let h = all_numbered xs (scoped st (opened st.scopes)) q.0 each q.1 in
      subst (Numbered st) (ok_is (scoped q.0.0 (closed q.0.0.scopes), Block q.0.1) r q.2)
      (record { counts = subst (λ ns. Counts (length st.rules) ns (length q.0.0.rules)) (sym (block_numbers own_rule q.0.1)) h.counts; none = block_numbers own_method q.0.1 ∙ h.none; same = h.same })

  inside_numbered : (x : Run) (st : State) (q : State × ModuleStmt) → NumberedRun x → inside x st ≡ Ok q → Numbered st q
  inside_numbered x st q good e =
      let r = went (x (scoped st (opened st.scopes))) _ q e in
      let h = good (scoped st (opened st.scopes)) r.0 r.1 in
      subst (Numbered st) (ok_is (scoped r.0.0 (closed r.0.0.scopes), r.0.1) q r.2) (record { counts = h.counts; none = h.none; same = h.same })

  abbrev pub LastNumbered : Option Run → Type 0
  LastNumbered None = Unit {0}
  LastNumbered (Some x) = NumberedRun x

  abbrev EndNumbered : State → State × Option ModuleStmt → Type 0
  EndNumbered st q = Counted st q.0 (or_empty (option_map (numbers own_rule) q.1)) (or_empty (option_map (numbers own_method) q.1))

  last_numbered : (o : Option Run) (st : State) (q : State × Option ModuleStmt) → LastNumbered o → last_arm o st ≡ Ok q → EndNumbered st q
  last_numbered None st q last e = subst (EndNumbered st) (ok_is (st, None) q e) (nothing st st.scopes [] [] refl refl)
  last_numbered (Some x) st q last e =
      let r = went (inside x st) _ q e in
      subst (EndNumbered st) (ok_is (r.0.0, Some r.0.1) q r.2) (inside_numbered x st r.0 last r.1)

  abbrev pub EachArm : List Arm → Type 0
  EachArm [] = Unit {0}
  EachArm (x ∷ xs) = NumberedRun x.run × EachArm xs

  abbrev ArmsNumbered : State → State × List ModuleBranch → Type 0
  ArmsNumbered st q = Counted st q.0 (concatenated (map (branch_numbers own_rule) q.1)) (concatenated (map (branch_numbers own_method) q.1))

  no_arms : (st : State) (q : State × List ModuleBranch) → ◌≡◌ {A = Or (State × List ModuleBranch)} (Ok (st, [])) (Ok q) → ArmsNumbered st q
  no_arms st q e = subst (ArmsNumbered st) (ok_is (st, []) q e) (nothing st st.scopes [] [] refl refl)

  arms_numbered : (tests : List Expr) (xs : List Arm) (st : State) (q : State × List ModuleBranch) → EachArm xs → arms tests xs st ≡ Ok q → ArmsNumbered st q
  arms_numbered (t ∷ ts) (x ∷ xs) st q each e =
      let r = went (inside x.run st) _ q e in
      let more = went (arms ts xs r.0.0) _ q r.2 in
      let h = inside_numbered x.run st r.0 each.0 r.1 in
      let first = other_numbers st r.0.0 (branch_numbers own_rule (branch t r.0.1)) (numbers own_rule r.0.1) (branch_numbers own_method (branch t r.0.1)) (numbers own_method r.0.1) (arm_numbers own_rule t r.0.1) (arm_numbers own_method t r.0.1) h in
      subst (ArmsNumbered st) (ok_is (more.0.0, branch t r.0.1 ∷ more.0.1) q more.2)
      (two st r.0.0 more.0.0 (branch_numbers own_rule (branch t r.0.1)) (concatenated (map (branch_numbers own_rule) more.0.1)) (branch_numbers own_method (branch t r.0.1)) (concatenated (map (branch_numbers own_method) more.0.1)) first (arms_numbered ts xs r.0.0 more.0 each.1 more.1))
  arms_numbered [] xs st q each e = no_arms st q e
  arms_numbered (t ∷ ts) [] st q each e = no_arms st q e

  pub if_numbered : (s : Span) (xs : List Arm) (otherwise : Option Run) → EachArm xs → LastNumbered otherwise → NumberedRun (if_case site s xs otherwise)
  if_numbered s xs otherwise each last st r e =
      let tests = went (conditions site st.scopes s xs) _ r e in
      let bs = went (arms tests.0 xs st) _ r tests.2 in
      let o = went (last_arm otherwise bs.0.0) _ r bs.2 in
      let h = arms_numbered tests.0 xs st bs.0 each bs.1 in
      let l = last_numbered otherwise bs.0.0 o.0 last o.1 in
      let rules = concatenated (map (branch_numbers own_rule) bs.0.1) in
      let methods = concatenated (map (branch_numbers own_method) bs.0.1) in
      let others = or_empty (option_map (numbers own_rule) o.0.1) in
      let more = or_empty (option_map (numbers own_method) o.0.1) in
      subst (Numbered st) (ok_is (o.0.0, If bs.0.1 o.0.1) r o.2)
      (other_numbers st o.0.0 (numbers own_rule (If bs.0.1 o.0.1)) (rules ++ others) (numbers own_method (If bs.0.1 o.0.1)) (methods ++ more) (if_numbers own_rule bs.0.1 o.0.1) (if_numbers own_method bs.0.1 o.0.1)
      (two st bs.0.0 o.0.0 rules others methods more h l))

  pub for_numbered : (s : Span) (h : WrittenHead) (x : Run) → NumberedRun x → NumberedRun (for_case site s h x)
  for_numbered s h x good st r e =
      let l = went (in_head (task site) s h st.scopes) _ r e in
      let q = went (x (scoped st l.0.0)) _ r l.2 in
      let c = good (scoped st l.0.0) q.0 q.1 in
      subst (Numbered st) (ok_is (scoped q.0.0 (closed q.0.0.scopes), For l.0.1 q.0.1) r q.2)
      (record { counts = subst (λ ns. Counts (length st.rules) ns (length q.0.0.rules)) (sym (for_numbers own_rule l.0.1 q.0.1)) c.counts; none = for_numbers own_method l.0.1 q.0.1 ∙ c.none; same = c.same })
