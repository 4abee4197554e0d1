-- What was in a module is in it later, and statements that define a variable or nothing are in order.
use Rattle.std.proofs.Common.{◌≡◌, ◌∙◌, ℕ, zero, suc, true, List, [], ◌∷◌, ◌++◌, Option, Some, None, Ok, refl, sym, ap, subst}
use Rattle.std.specs.Prelude.{slice_get, slice_set}
use Rattle.std.proofs.lemmas.Option.{same_Some}
use Rattle.bsv_scopes.specs.Scopes.{closed}
use Rattle.bsv_types.specs.declared.modules.Rule.{Rule}
use Rattle.bsv_types.specs.declared.modules.Method.{Method}
use Rattle.bsv_types.specs.declared.modules.ModuleStmt.{ModuleStmt}
use Rattle.bsv_types.specs.Methods.{Signature}
use Rattle.bsv_types.specs.Expressions.{Slot, World}
use Rattle.bsv_types.specs.Statements as typed
use Rattle.bsv_types.specs.Modules as rules
use Rattle.bsv_statements.specs.Bodies.{Or, Scopes}
use Rattle.bsv_statements.specs.Laws.{frame_of, ScopesFit}
use Rattle.bsv_statements.proofs.RightCalls.{ok_is}
use Rattle.bsv_statements.proofs.RightScopes.{Defined}
use Rattle.bsv_modules.specs.Modules.{Run, State, scoped, is_free}
use Rattle.bsv_modules.proofs.RightMakers.{typed_site}

-- ---- lists that grow, and places that are taken

pub set_there : (ms : List (Option Method)) (n : ℕ) (m : Method) → is_free n ms ≡ true → slice_get (slice_set ms n (Some m)) n ≡ Some (Some m)
set_there [] n m free = absurd cc
set_there (x ∷ ms) zero m free = refl
set_there (x ∷ ms) (suc n) m free = set_there ms n m free

pub set_kept : (ms : List (Option Method)) (n k : ℕ) (m old : Method) → is_free n ms ≡ true → slice_get ms k ≡ Some (Some old) → slice_get (slice_set ms n (Some m)) k ≡ Some (Some old)
set_kept [] n k m old free is = absurd cc
set_kept (None ∷ ms) zero zero m old free is = let never : None ≡ Some old = same_Some None (Some old) is in absurd cc
set_kept (Some x ∷ ms) zero zero m old free is = absurd cc
set_kept (x ∷ ms) zero (suc k) m old free is = is
set_kept (x ∷ ms) (suc n) zero m old free is = is
set_kept (x ∷ ms) (suc n) (suc k) m old free is = set_kept ms n k m old free is

-- what is in the state stands later
pub record Later (rs : List Rule) (ms : List (Option Method)) (last : List Rule) (ends : List Method) : Type 0 where
  pub rules : (n : ℕ) (r : Rule) → slice_get rs n ≡ Some r → slice_get last n ≡ Some r
  pub methods : (n : ℕ) (m : Method) → slice_get ms n ≡ Some (Some m) → slice_get ends n ≡ Some m

abbrev pub LaterThan : State → List Rule → List Method → Type 0
LaterThan st rs ms = Later st.rules st.methods rs ms

module _ (w : World) (headers : List rules.Header) (wanted : List Signature) where
  -- a typed statement, where these are the rules and the methods of its module
  abbrev pub run_in : List Rule → List Method → ModuleStmt → typed.Run
  run_in rs ms = rules.module_stmt_run (typed_site w headers wanted rs ms)

  -- what a statement is typed as is in order in the frame of the scopes before it, and gives that of the scopes
  -- after it, whatever rules and methods stand later
  pub record Ran (st : State) (r : State × ModuleStmt) : Type 0 where
    pub right : (rs : List Rule) (ms : List Method) → LaterThan r.0 rs ms → run_in rs ms r.1 (frame_of st.scopes) ≡ Some (frame_of r.0.scopes)
    pub earlier : (rs : List Rule) (ms : List Method) → LaterThan r.0 rs ms → LaterThan st rs ms
    pub fit : ScopesFit w.shapes r.0.scopes
    pub outer : closed r.0.scopes ≡ closed st.scopes

  abbrev pub GoodRun : Run → Type 0
  GoodRun x = (st : State) (r : State × ModuleStmt) → ScopesFit w.shapes st.scopes → x st ≡ Ok r → Ran st r

  -- a statement that defines nothing
  pub ended : (st : State) (x : ModuleStmt) (r : State × ModuleStmt) → ScopesFit w.shapes st.scopes → ((rs : List Rule) (ms : List Method) → run_in rs ms x (frame_of st.scopes) ≡ Some (frame_of st.scopes)) →
      ◌≡◌ {A = Or (State × ModuleStmt)} (Ok (st, x)) (Ok r) → Ran st r
  ended st x r fit h e = subst (Ran st) (ok_is (st, x) r e) (record { right = λ rs ms later. h rs ms; earlier = λ rs ms later. later; fit = fit; outer = refl })

  -- a statement that defines a variable, an instance or an array
  pub defines : (st back : State) (next : Scopes) (slot : Slot) (x : ModuleStmt) (r : State × ModuleStmt) → Defined w.shapes slot st.scopes next → scoped st next ≡ back →
      ((rs : List Rule) (ms : List Method) → run_in rs ms x (frame_of st.scopes) ≡ Some (frame_of st.scopes ++ slot ∷ [])) → ◌≡◌ {A = Or (State × ModuleStmt)} (Ok (back, x)) (Ok r) → Ran st r
  defines st back next slot x r d is h e =
      let same = ap (λ b. (b, x)) is ∙ ok_is (back, x) r e in
      subst (Ran st) same (record { right = λ rs ms later. h rs ms ∙ ap Some (sym d.frame); earlier = λ rs ms later. later; fit = d.fit; outer = d.outer })
