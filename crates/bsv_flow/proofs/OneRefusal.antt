-- The first refusal of one input is one, but for the place of a `Syntax`.
use Rattle.std.proofs.Common.{◌≡◌, ℕ, ◌<◌, ◌≤◌, inl, inr, List, [], length, codes, Option, Some, Result, Ok, Err, refl, ap, subst, sym, ◌∙◌, arith}
use Rattle.std.proofs.lemmas.Bool.{cases_lt}
use Rattle.bsv_ast.specs.declared.package.Package.{Package}
use Rattle.bsv_lex.specs.declared.token.Token.{Token}
use Rattle.bsv_lex.specs.declared.token.LexFault.{LexFault}
use Rattle.bsv_lex.specs.declared.token.LexFault.TheVariants as fault
use Rattle.bsv_lex.specs.Tokens.{Tokens, FirstFault}
use Rattle.bsv_lex.proofs.Splitting.{one_list, one_fault, not_both}
use Rattle.bsv_expr.specs.Lexemes.{lexemes}
use Rattle.bsv_expr.specs.Expression.{IsShallow}
use Rattle.bsv_parse.specs.Reads.{IsTooDeep}
use Rattle.bsv_parse.proofs.Deepest.{deep_found}
use Rattle.bsv_parse.proofs.Judged.{deep_is}
use Rattle.bsv_check.specs.Checked.{ProgramParts}
use Rattle.bsv_flow.specs.declared.loading.Loaded.{Loaded}
use Rattle.bsv_flow.specs.declared.refusal.Refusal.{Refusal}
use Rattle.bsv_flow.specs.declared.refusal.Refusal.TheVariants as refusal
use Rattle.bsv_flow.specs.Loads.{Reaches, Refuses}
use Rattle.bsv_flow.specs.OneAnswer.{IsSameRefusal}
use Rattle.bsv_flow.specs.Positions.{line, column}
use Rattle.bsv_flow.specs.Typings.{typing_of, IsTyped, IsUntyped}
use Rattle.bsv_flow.specs.Yields.{Yields, most_bytes}
use Rattle.bsv_flow.proofs.Decided as loading
use Rattle.bsv_flow.proofs.Decided.{Same, Passes, once, same_file, passes_before, too_many}
use Rattle.bsv_flow.proofs.Yielded.{found_or_refused}

same_refusal : (r s : Refusal) → r ≡ s → IsSameRefusal r s
same_refusal r s e = subst (λ (t : Refusal). IsSameRefusal r t) e IsSameRefusal.equal

-- ---- of one file

module _ (file bytes : List ℕ) where
  -- the refusal of a fault of the tokens
  abbrev of_fault : LexFault → Refusal
  of_fault (fault.BadByte at) = refusal.BadByte file (line bytes at) (column bytes at)
  of_fault (fault.OpenComment at) = refusal.OpenComment file (line bytes at) (column bytes at)
  of_fault (fault.BadLiteral at) = refusal.BadLiteral file (line bytes at) (column bytes at)
  of_fault (fault.TooLong at) = refusal.TooLong file (line bytes at) (column bytes at)
  of_fault fault.OutOfMemory = refusal.Limit [] 0

  abbrev of_depth : ℕ → Refusal
  of_depth at = refusal.TooDeep file (line bytes at) (column bytes at)

  -- the four causes of a refusal
  data Cause (r : Refusal) : Type 0 where
    large : most_bytes < length bytes → r ≡ refusal.Limit (codes "source") most_bytes → Cause r
    faulty : (f : LexFault) → length bytes ≤ most_bytes → FirstFault bytes f → r ≡ of_fault f → Cause r
    deep : (ts : List Token) (at : ℕ) → length bytes ≤ most_bytes → Tokens bytes ts → IsTooDeep bytes ts at → r ≡ of_depth at → Cause r
    none : (ts : List Token) (at : ℕ) → length bytes ≤ most_bytes → Tokens bytes ts → IsShallow bytes ts → r ≡ refusal.Syntax file (line bytes at) (column bytes at) → Cause r

  cause : (r : Refusal) → Yields file bytes (Err r) → Cause r
  cause r (Yields.too_large more) = large more refl
  cause r (Yields.bad_byte {at = at} le first) = faulty (fault.BadByte at) le first refl
  cause r (Yields.open_comment {at = at} le first) = faulty (fault.OpenComment at) le first refl
  cause r (Yields.bad_literal {at = at} le first) = faulty (fault.BadLiteral at) le first refl
  cause r (Yields.too_long {at = at} le first) = faulty (fault.TooLong at) le first refl
  cause r (Yields.too_deep {ts = ts} {at = at} le is d) = deep ts at le is d refl
  cause r (Yields.no_tree {ts = ts} at le is shallow never) = none ts at le is shallow refl

  some_at : (x y : ℕ) → ◌≡◌ {A = Option ℕ} (Some x) (Some y) → x ≡ y
  some_at x y e = cc

  one_depth : (ts us : List Token) (at other : ℕ) → us ≡ ts → IsTooDeep bytes ts at → IsTooDeep bytes us other → at ≡ other
  one_depth ts us at other same d e =
      some_at at other
      (sym (deep_found 0 (lexemes bytes ts) at d)
      ∙ deep_found 0 (lexemes bytes ts) other (subst (λ (vs : List Token). IsTooDeep bytes vs other) same e))

  deep_or_not : (ts us : List Token) (at : ℕ) → ts ≡ us → IsTooDeep bytes ts at → IsShallow bytes us → ⊥
  deep_or_not ts us at same d shallow = deep_is bytes us at (subst (λ (vs : List Token). IsTooDeep bytes vs at) same d) shallow

  one_syntax : (r s : Refusal) (name : List ℕ) (a b c d : ℕ) → r ≡ refusal.Syntax name a b → s ≡ refusal.Syntax name c d → IsSameRefusal r s
  one_syntax r s name a b c d e f =
      subst (λ (t : Refusal). IsSameRefusal t s) (sym e) (subst (λ (t : Refusal). IsSameRefusal (refusal.Syntax name a b) t) (sym f) IsSameRefusal.both_syntax)

  one_cause : (r s : Refusal) → Cause r → Cause s → IsSameRefusal r s
  one_cause r s (large more e) (large also f) = same_refusal r s (e ∙ sym f)
  one_cause r s (large more e) (faulty g le first f) = absurd (omega arith)
  one_cause r s (large more e) (deep ts at le is d f) = absurd (omega arith)
  one_cause r s (large more e) (none ts at le is shallow f) = absurd (omega arith)
  one_cause r s (faulty g le first e) (large more f) = absurd (omega arith)
  one_cause r s (faulty g le first e) (faulty h less also f) = same_refusal r s (e ∙ ap of_fault (one_fault bytes g h first also) ∙ sym f)
  one_cause r s (faulty g le first e) (deep ts at less is d f) = absurd (not_both bytes ts g is first)
  one_cause r s (faulty g le first e) (none ts at less is shallow f) = absurd (not_both bytes ts g is first)
  one_cause r s (deep ts at le is d e) (large more f) = absurd (omega arith)
  one_cause r s (deep ts at le is d e) (faulty g less first f) = absurd (not_both bytes ts g is first)
  one_cause r s (deep ts at le is d e) (deep us other less also c f) =
      same_refusal r s (e ∙ ap of_depth (one_depth ts us at other (one_list bytes us ts also is) d c) ∙ sym f)
  one_cause r s (deep ts at le is d e) (none us other less also shallow f) = absurd (deep_or_not ts us at (one_list bytes ts us is also) d shallow)
  one_cause r s (none ts at le is shallow e) (large more f) = absurd (omega arith)
  one_cause r s (none ts at le is shallow e) (faulty g less first f) = absurd (not_both bytes ts g is first)
  one_cause r s (none ts at le is shallow e) (deep us other less also d f) = absurd (deep_or_not us ts other (one_list bytes us ts also is) d shallow)
  one_cause r s (none ts at le is shallow e) (none us other less also low f) =
      one_syntax r s file (line bytes at) (column bytes at) (line bytes other) (column bytes other) e f

  -- a file has one refusal
  pub of_file : (r s : Refusal) → Yields file bytes (Err r) → Yields file bytes (Err s) → IsSameRefusal r s
  of_file r s yields also = one_cause r s (cause r yields) (cause s also)

-- ---- of loading

module _ (first : List ℕ) (contents : List ℕ → List ℕ) where
  -- of two places where loading ends, neither comes before the other
  one_count : (name also : List ℕ) (at : Reaches first contents name) (there : Reaches first contents also)
      → (Passes first contents name at.queue → ⊥) → (Passes first contents also there.queue → ⊥) → length at.packages ≡ length there.packages
  one_count name also at there stays too =
      elim (cases_lt (length at.packages) (length there.packages)) [
        | inl less ↦ absurd (stays (passes_before first contents name also at there less))
        | inr le ↦
            elim (cases_lt (length there.packages) (length at.packages)) [
              | inl more ↦ absurd (too (passes_before first contents also name there at more))
              | inr last ↦ omega arith
            ]
      ]

  one_end : (name also : List ℕ) (at : Reaches first contents name) (there : Reaches first contents also)
      → (Passes first contents name at.queue → ⊥) → (Passes first contents also there.queue → ⊥) → name ≡ also
  one_end name also at there stays too =
      let count : length at.packages ≡ length there.packages = one_count name also at there stays too in
      let same : Same first contents at.queue there.queue at.packages there.packages = once first contents at.queue there.queue at.packages there.packages at.before there.before count in
      same_file first contents at.queue there.queue (length at.packages) (length there.packages) name also same.0 count at.at there.at

  refused_stays : (name : List ℕ) (queue : List (List ℕ)) (r : Refusal) → Yields name (contents name) (Err r) → Passes first contents name queue → ⊥
  refused_stays name queue r yields p = found_or_refused name (contents name) p.x r p.yields yields

  -- the file at which loading ends yields one thing
  yields_at : (name also : List ℕ) (y : Result Package Refusal) → name ≡ also → Yields also (contents also) y → Yields name (contents name) y
  yields_at name also y same yields = subst (λ (f : List ℕ). Yields f (contents f) y) (sym same) yields

  pub of_loading : (r s : Refusal) → Refuses first contents r → Refuses first contents s → IsSameRefusal r s
  of_loading r s (Refuses.file {name = name} at yields) (Refuses.file {name = also} there refused) =
      let same : name ≡ also = one_end name also at there (refused_stays name at.queue r yields) (refused_stays also there.queue s refused) in
      of_file name (contents name) r s yields (yields_at name also (Err s) same refused)
  of_loading r s (Refuses.file {name = name} at yields) (Refuses.packages {name = also} {x = x} there found more) =
      let same : name ≡ also = one_end name also at there (refused_stays name at.queue r yields) (λ p. too_many first contents also there.queue x p found more) in
      absurd (found_or_refused name (contents name) x r (yields_at name also (Ok x) same found) yields)
  of_loading r s (Refuses.packages {name = name} {x = x} at found more) (Refuses.file {name = also} there refused) =
      let same : name ≡ also = one_end name also at there (λ p. too_many first contents name at.queue x p found more) (refused_stays also there.queue s refused) in
      absurd (found_or_refused name (contents name) x s found (yields_at name also (Err s) same refused))
  of_loading r s (Refuses.packages at found more) (Refuses.packages there also much) = IsSameRefusal.equal

  -- ---- of typing

  pub one_program : (l m : Loaded) (one : IsTyped first contents l) (other : IsTyped first contents m) → one.made ≡ other.made
  one_program l m one other =
      let same : l ≡ m = loading.same first contents l m one.loaded other.loaded in
      same_made one.made other.made (sym one.typed ∙ ap typing_of same ∙ other.typed)
    where
      same_made : (a b : ProgramParts) → ◌≡◌ {A = Result ProgramParts Refusal} (Ok a) (Ok b) → a ≡ b
      same_made a b e = cc

  typed_refusal : (r s : Refusal) → ◌≡◌ {A = Result ProgramParts Refusal} (Err r) (Err s) → r ≡ s
  typed_refusal r s e = cc

  pub of_typing : (r s : Refusal) → IsUntyped first contents r → IsUntyped first contents s → IsSameRefusal r s
  of_typing r s (IsUntyped.loading one) (IsUntyped.loading other) = of_loading r s one other
  of_typing r s (IsUntyped.loading one) (IsUntyped.typing m loaded refused) = absurd (loading.apart first contents m r loaded one)
  of_typing r s (IsUntyped.typing l loaded refused) (IsUntyped.loading other) = absurd (loading.apart first contents l s loaded other)
  of_typing r s (IsUntyped.typing l loaded refused) (IsUntyped.typing m also too) =
      let same : l ≡ m = loading.same first contents l m loaded also in
      same_refusal r s (typed_refusal r s (sym refused ∙ ap typing_of same ∙ too))
