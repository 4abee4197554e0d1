-- After the last arm of a choice the same variables are there.
use Rattle.std.proofs.Common.{◌≡◌, List, [], ◌∷◌, length, Ok}
use Rattle.bsv_bits.specs.Words.{Bits}
use Rattle.bsv_tree.specs.declared.values.Count.{Count}
use Rattle.bsv_tree.specs.declared.values.Local.{Local}
use Rattle.bsv_tree.specs.declared.values.Pending.{Pending}
use Rattle.bsv_tree.specs.declared.values.Work.{Work}
use Rattle.bsv_tree.specs.carrying.Arms as carried
use Rattle.bsv_tree.specs.carrying.Carrying as carrying
use Rattle.bsv_tree.specs.carrying.Carrying.{Acts}
use Rattle.bsv_tree.specs.carrying.Frames as frames
use Rattle.bsv_tree.specs.carrying.Working.{no_steps, at_count}
use Rattle.bsv_tree.specs.meaning.Control as control
use Rattle.bsv_tree.specs.meaning.Evaluation.{Results}
use Rattle.bsv_tree.proofs.meaning.Same.{got}
use Rattle.bsv_tree.proofs.meaning.Statements.{Kept}
use Rattle.bsv_tree.proofs.meaning.Staying.{close_stays}
use Rattle.bsv_tree.proofs.meaning.Tails.{Exactly, ExactlyWhere}

-- the variables are still there, and there are no others
abbrev pub Stays : List Local → List Local → Type 0
Stays vs ts = Kept vs ts × (length ts ≡ length vs)

-- statements after which the same variables are there
abbrev pub Keeps : Acts → Type 0
Keeps a = (vs : List Local) (w : Work) (ts : List Local) (v : Work) → a vs w ≡ Ok (ts, v) → Stays vs ts

pub exactly_keeps : (r : Results) (a : Acts) (m : control.Acts) → Exactly r a m → Keeps a
exactly_keeps r a m h vs w ts v e = (h.does.kept vs w ts v e, h.exact vs w ts v e)

pub where_keeps : (r : Results) (R : List Bits → Type 0) (a : Acts) (m : control.Acts) → ExactlyWhere r R a m → Keeps a
where_keeps r R a m h vs w ts v e = (h.does.kept vs w ts v e, h.exact vs w ts v e)

-- the last arm, alone or in the step of a choice
pub last_stays : (vs : List Local) (w : Work) (ps : List Pending) (a : Acts) → Keeps a → (c : Count) (ts : List Local) (v : Work) → carrying.last_arm w ps a vs c ≡ Ok (ts, v) → Stays vs ts
unfolding carrying.last_arm
last_stays vs w [] a h c ts v e = h vs (at_count w c) ts v e
last_stays vs w (p ∷ ps) a h c ts v e =
    let g = got (a (frames.untouched vs) (no_steps c)) (λ o. carried.close vs w (p ∷ ps) o.0 o.1) (ts, v) e in
    close_stays vs w (p ∷ ps) g.0.0 g.0.1 ts v g.2
