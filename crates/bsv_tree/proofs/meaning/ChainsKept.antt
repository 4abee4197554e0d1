-- After a chain of `if` the same variables are there.
use Rattle.std.proofs.Common.{◌≡◌, Bool, true, false, List, [], ◌∷◌, Ok, refl}
use Rattle.std.specs.Prelude.{if◌then◌else◌}
use Rattle.bsv_fail.specs.Given.{◌>>=◌}
use Rattle.bsv_tree.specs.declared.values.Count.{Count}
use Rattle.bsv_tree.specs.declared.values.Local.{Local}
use Rattle.bsv_tree.specs.declared.values.Pending.{Pending}
use Rattle.bsv_tree.specs.declared.values.Work.{Work}
use Rattle.bsv_tree.specs.carrying.Values as values
use Rattle.bsv_tree.specs.carrying.Carrying as carrying
use Rattle.bsv_tree.specs.carrying.Carrying.{Acts, Branched, Test}
use Rattle.bsv_tree.specs.meaning.Evaluation.{Results}
use Rattle.bsv_tree.specs.meaning.Control as control
use Rattle.bsv_tree.proofs.meaning.Same.{got}
use Rattle.bsv_tree.proofs.meaning.Tails.{Exactly}
use Rattle.bsv_tree.proofs.meaning.Stays.{Stays, last_stays, exactly_keeps, where_keeps}
use Rattle.bsv_tree.proofs.meaning.Tests.{AllTest, subject}
use Rattle.bsv_tree.proofs.meaning.Same.{Shows}
use Rattle.bsv_tree.specs.meaning.Values.{nothing}
use Rattle.bsv_tree.proofs.meaning.Chains.{chain_from_is}

pub chain_stays : (r : Results) (vs : List Local) (bs : List Branched) (ms : List control.Branched) → AllTest r bs ms → (last : Acts) (mlast : control.Acts) → Exactly r last mlast
    → (w : Work) (ps : List Pending) (c : Count) (ts : List Local) (v : Work) → carrying.chain_from w ps bs last vs c ≡ Ok (ts, v) → Stays vs ts
unfolding carrying.chain_from
chain_stays r vs [] [] h last mlast x w ps c ts v e = last_stays vs w ps last (exactly_keeps r last mlast x) c ts v e
chain_stays r vs (b ∷ bs) (m ∷ ms) h last mlast x w ps c ts v e =
    let g = got (b.asks vs c) _ (ts, v) e in
    split g.0 g.1 (values.is_true g.0.0) g.2 (λ qs u i. chain_stays r vs bs ms h.1 last mlast x w qs u ts v i) where
      split : (t : Test) → b.asks vs c ≡ Ok t → (is : Bool)
          → (if is then carrying.last_arm w ps (carrying.branch_arm b.arm t.1) vs (carrying.after_arm c t.2.count) else (carrying.kept ps c t b.arm vs >>= λ o. carrying.chain_from w o.0 bs last vs o.1)) ≡ Ok (ts, v)
          → ((qs : List Pending) (u : Count) → carrying.chain_from w qs bs last vs u ≡ Ok (ts, v) → Stays vs ts) → Stays vs ts
      split t e' true f ih =
          last_stays vs w ps (carrying.branch_arm b.arm t.1)
          (where_keeps r (λ V. Shows V (subject t) nothing) (carrying.branch_arm b.arm t.1) (λ us. control.scoped m.arm (h.0.payload nothing) us) (h.0.arm vs c t e' nothing)) (carrying.after_arm c t.2.count) ts v f
      split t e' false f ih = let k = got (carrying.kept ps c t b.arm vs) (λ o. carrying.chain_from w o.0 bs last vs o.1) (ts, v) f in ih k.0.0 k.0.1 k.2
chain_stays r vs [] (m ∷ ms) h last mlast x w ps c ts v e = absurd h
chain_stays r vs (b ∷ bs) [] h last mlast x w ps c ts v e = absurd h

-- the whole statement
pub chain_does : (r : Results) (bs : List Branched) (ms : List control.Branched) → AllTest r bs ms → (last : Acts) (mlast : control.Acts) → Exactly r last mlast → Exactly r (carrying.chain bs last) (control.chain ms mlast)
unfolding carrying.chain
chain_does r bs ms h last mlast x = record {
  does = record {
    kept = λ vs w ts v e. (chain_stays r vs bs ms h last mlast x w [] w.count ts v e).0;
    does = λ p ws n k vs us w long hold ts v e. chain_from_is r vs us p ws n k w long hold bs ms h last mlast x w.count refl ts v e;
  };
  exact = λ vs w ts v e. (chain_stays r vs bs ms h last mlast x w [] w.count ts v e).1;
}
