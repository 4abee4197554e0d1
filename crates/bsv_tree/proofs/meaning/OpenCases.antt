-- A `case` of a subject that is not static does what it means: a choice whose conditions are made of labels.
use Rattle.std.proofs.Common.{◌≡◌, ℕ, ◌+◌, Bool, ◌&&◌, List, [], ◌∷◌, ◌++◌, map, Ok, sym, ap, ap₂, ◌∙◌, subst, append_assoc, append-nil}
use Rattle.bsv_lemmas.proofs.Choices.{same_ok}
use Rattle.bsv_bits.specs.Words.{Bits}
use Rattle.bsv_tree.specs.declared.steps.Step.{Step}
use Rattle.bsv_tree.specs.declared.values.Value.{Value}
use Rattle.bsv_tree.specs.declared.values.Count.{Count}
use Rattle.bsv_tree.specs.declared.values.Local.{Local}
use Rattle.bsv_tree.specs.declared.values.Pending.{Pending}
use Rattle.bsv_tree.specs.declared.values.Work.{Work}
use Rattle.bsv_tree.specs.carrying.Arms as carried
use Rattle.bsv_tree.specs.carrying.Calls.{Caller}
use Rattle.bsv_tree.specs.carrying.Carrying as carrying
use Rattle.bsv_tree.specs.carrying.Carrying.{Acts}
use Rattle.bsv_tree.specs.carrying.Frames as frames
use Rattle.bsv_tree.specs.carrying.Running.{in_turn, run, arms_run}
use Rattle.bsv_tree.specs.carrying.Values.{atom_of}
use Rattle.bsv_tree.specs.carrying.Working.{no_steps}
use Rattle.bsv_tree.specs.meaning.Control as control
use Rattle.bsv_tree.specs.meaning.Evaluation.{Results, Standing, SiteCall, Need, Evaluation, Evaluated, in_order}
use Rattle.bsv_tree.specs.meaning.Meaning as meaning
use Rattle.bsv_tree.specs.meaning.Meaning.{Calling}
use Rattle.bsv_tree.specs.meaning.Values.{Value as Val, varying, word_of, Variables}
use Rattle.bsv_tree.specs.tree.Contexts.{Context}
use Rattle.bsv_tree.proofs.meaning.Closing.{Vars, closed_is}
use Rattle.bsv_tree.proofs.meaning.Joins.{AllPlain, Ends, Finishes, Both, last_finishes, open_finishes, pend}
use Rattle.bsv_tree.proofs.meaning.Labels.{labels_is}
use Rattle.bsv_tree.proofs.meaning.Nodes.{alternative}
use Rattle.bsv_tree.proofs.meaning.Operating.{V}
use Rattle.bsv_tree.proofs.meaning.Same.{Shows, AllHold, IsLong, got, shows_word, shows_within}
use Rattle.bsv_tree.proofs.meaning.Statements.{everywhere}
use Rattle.bsv_tree.proofs.meaning.StaticCases.{Labels, AllLabels}
use Rattle.bsv_tree.proofs.meaning.Staying.{close_stays}
use Rattle.bsv_tree.proofs.meaning.Stays.{Stays}
use Rattle.bsv_tree.proofs.meaning.Tails.{Exactly, Tail}

module _ (r : Results) (call : Caller) (calling : Calling) (site : Context) (x : Value) where
  -- the same variables are there
  pub open_stays : (vs : List Local) (w : Work) (cs : List carrying.Labelled) (ps : List Pending) (last : Acts) (c : Count) (ts : List Local) (v : Work)
      → carrying.open_case call site x w ps cs last vs c ≡ Ok (ts, v) → Stays vs ts
  unfolding carrying.open_case
  open_stays vs w [] ps last c ts v e =
      let g = got (last (frames.untouched vs) (no_steps c)) (λ o. carried.close vs w ps o.0 o.1) (ts, v) e in
      close_stays vs w ps g.0.0 g.0.1 ts v g.2
  open_stays vs w (a ∷ cs) ps last c ts v e =
      let g = got (carrying.open_arm call site x ps a vs c) (λ o. carrying.open_case call site x w o.0 cs last vs o.1) (ts, v) e in
      open_stays vs w cs g.0.0 last g.0.1 ts v g.2

  module _ (y : Val) (vs : List Local) (us : Variables) where
    -- the subject shows what it means
    abbrev Subject : List Bits → Type 0
    Subject W = Shows W x y

    -- whether the subject has a label of the arm
    abbrev equal : meaning.Labelled → Standing → ℕ → ℕ → Evaluated Val
    equal m q n k =
        let a = m.labels us q n k in
        record { gives = varying (word_of (meaning.one_of site.shapes y a.gives)); choices = a.choices; sites = a.sites; calls = a.calls; needs = a.needs }

    abbrev branches : List meaning.Labelled → List control.Branched
    branches ms = map (meaning.as_branch r calling site y) ms

    -- what is told of an arm: its labels, and both arms of the choice
    arm_told : (given : List ℕ) (plain : AllPlain vs given) (m : meaning.Labelled) (bs : List control.Branched) (last : control.Acts) (number arm : ℕ) (left : Bool) (q : Standing) (n k : ℕ)
        → control.arms number arm left (meaning.as_branch r calling site y m ∷ bs) last us q n k
        ≡ (let d = equal m q n k in in_order d (Both r vs us given plain number arm left (λ us. control.scoped m.arm [] us) (λ l. control.arms number (arm + 1) l bs last us) d.gives q d.choices d.sites))
    unfolding control.arms
    arm_told given plain m bs last number arm left q n k =
        let d = equal m q n k in
        let b = Both r vs us given plain number arm left (λ us. control.scoped m.arm [] us) (λ l. control.arms number (arm + 1) l bs last us) d.gives q d.choices d.sites in
        ap₂ (λ (cs : List SiteCall) (ns : List Need). let o : Evaluated Variables = record { gives = b.gives; choices = b.choices; sites = b.sites; calls = cs ++ b.calls; needs = ns ++ b.needs } in o) (append-nil d.calls) (append-nil d.needs)

    -- an arm, where the arms after it run to what is told of them
    arm_finishes : (a : carrying.Labelled) (m : meaning.Labelled) → Labels r a m → (bs : List control.Branched) (last : control.Acts) (c : Count) (t : Value) (tw : Work)
        → carrying.labels call site x a.labels vs c ≡ Ok (t, tw)
        → (lv : List Local) (lw : Work) → carrying.inside a.arm (frames.untouched vs) (no_steps tw.count) ≡ Ok (lv, lw)
        → (more : List Pending) (ll : List Step) (lvs : List Local) (given : List ℕ) (plain : AllPlain vs given) (number arm : ℕ)
        → ((l : Bool) → Finishes r vs us given plain Subject tw.count.slots more ll lvs number (arm + 1) l (control.arms number (arm + 1) l bs last us))
        → (left : Bool) → Finishes r vs us given plain Subject c.slots (carrying.pending t tw (lv, lw) ∷ more) ll lvs number arm left (control.arms number arm left (meaning.as_branch r calling site y m ∷ bs) last us)
    unfolding in_turn pend
    arm_finishes a m h bs last c t tw e lv lw e' more ll lvs given plain number arm finishes left q W n k long hold on =
        let d = equal m q n k in
        let first = labels_is r call site q W n k x y a.labels h.meant h.carries vs us c long hold on t tw e in
        let told : meaning.all h.meant us q n k ≡ m.labels us q n k = ap (λ (o : Variables → Evaluation (List Val)). o us q n k) (sym h.labels) in
        let V = in_turn (map run tw.steps) r q W n k in
        let it = open_finishes r vs us given plain Subject (λ V W within s. shows_within V W within x y s) (carrying.inside a.arm) (atom_of t) tw lv lw e'
        (h.arm.exact (frames.untouched vs) (no_steps tw.count) lv lw e') more ll lvs number arm left (λ l. control.arms number (arm + 1) l bs last us) finishes
        (λ W. Unit {0}) (λ us. control.scoped m.arm [] us) (everywhere r (carrying.inside a.arm) (λ us. control.scoped m.arm [] us) h.arm.does) q W n k d (word_of d.gives) hold on tt first.adds.within first.long
        (shows_word V.words t (meaning.one_of site.shapes y (meaning.all h.meant us q n k).gives) first.gives ∙ ap (λ (o : Evaluated (List Val)). word_of (meaning.one_of site.shapes y o.gives)) told)
        (first.adds.choices ∙ ap (λ (o : Evaluated (List Val)). o.choices) told) (first.adds.sites ∙ ap (λ (o : Evaluated (List Val)). o.sites) told)
        (first.adds.calls ∙ ap (λ (o : Evaluated (List Val)). o.calls) told) (first.adds.needs ∙ ap (λ (o : Evaluated (List Val)). o.needs) told) in
        subst (λ o. Ends r vs us given plain (carried.assigned (carrying.pending t tw (lv, lw) ∷ more) lvs)
        (arms_run (map run ll) (map (carried.given_by lvs) given) (map alternative (map (carried.arm_of given) (carrying.pending t tw (lv, lw) ∷ more))) number arm (q.taken && left) r q W n k) o)
        (sym (arm_told given plain m bs last number arm left q n k)) it

    -- all arms from one on
    arms_left : (cs : List carrying.Labelled) (ms : List meaning.Labelled) → AllLabels r cs ms → (last : Acts) (mlast : control.Acts) → Exactly r last mlast
        → (w : Work) (ps : List Pending) (c : Count) (ts : List Local) (v : Work) → carrying.open_case call site x w ps cs last vs c ≡ Ok (ts, v)
        → Tail r Subject vs us w ps c.slots (λ number arm left. control.arms number arm left (branches ms) mlast us) ts v
    unfolding carrying.open_case carrying.open_arm control.arms
    arms_left [] [] h last mlast l w ps c ts v e =
        let g = got (last (frames.untouched vs) (no_steps c)) (λ o. carried.close vs w ps o.0 o.1) (ts, v) e in
        record {
          more = [];
          locals = g.0.0;
          last = g.0.1;
          made = subst (λ o. carried.close vs w o g.0.0 g.0.1 ≡ Ok (ts, v)) (sym (append-nil ps)) g.2;
          finishes = λ given plain number arm left.
              last_finishes r vs us given plain Subject last mlast l.does c g.0.0 g.0.1 g.1 (l.exact (frames.untouched vs) (no_steps c) g.0.0 g.0.1 g.1) number arm left;
        }
    arms_left (a ∷ cs) (m ∷ ms) h last mlast l w ps c ts v e =
        let g = got (carrying.open_arm call site x ps a vs c) (λ o. carrying.open_case call site x w o.0 cs last vs o.1) (ts, v) e in
        let t = got (carrying.labels call site x a.labels vs c) _ g.0 g.1 in
        let o = got (carrying.inside a.arm (frames.untouched vs) (no_steps t.0.1.count)) _ g.0 t.2 in
        let new = carrying.pending t.0.0 t.0.1 o.0 in
        let T = arms_left cs ms h.1 last mlast l w (ps ++ new ∷ []) (carrying.after_arm t.0.1.count o.0.1.count) ts v
        (subst (λ (i : List Pending × Count). carrying.open_case call site x w i.0 cs last vs i.1 ≡ Ok (ts, v)) (sym (same_ok (ps ++ new ∷ [], carrying.after_arm t.0.1.count o.0.1.count) g.0 o.2)) g.2) in
        record {
          more = new ∷ T.more;
          locals = T.locals;
          last = T.last;
          made = subst (λ (i : List Pending). carried.close vs w i T.locals T.last ≡ Ok (ts, v)) (append_assoc ps (new ∷ []) T.more) T.made;
          finishes = λ given plain number arm left. arm_finishes a m h.0 (branches ms) mlast c t.0.0 t.0.1 t.1 o.0.0 o.0.1 o.1 T.more T.last.steps T.locals given plain number arm
              (λ i. T.finishes given plain number (arm + 1) i) left;
        }
    arms_left [] (m ∷ ms) h last mlast l w ps c ts v e = absurd h
    arms_left (a ∷ cs) [] h last mlast l w ps c ts v e = absurd h

    -- the whole choice
    pub open_case_is : (p : Standing) (ws : List Bits) (n k : ℕ) (w : Work) (long : IsLong r p ws n k w) (hold : AllHold (V r p ws n k w) vs us) (on : Shows (V r p ws n k w) x y)
        → (cs : List carrying.Labelled) (ms : List meaning.Labelled) → AllLabels r cs ms → (last : Acts) (mlast : control.Acts) → Exactly r last mlast
        → (ts : List Local) (v : Work) → carrying.open_case call site x w [] cs last vs w.count ≡ Ok (ts, v)
        → Vars r Subject vs us p ws n k w long hold on ts v (control.choose (branches ms) mlast us)
    open_case_is p ws n k w long hold on cs ms h last mlast l ts v e =
        let T = arms_left cs ms h last mlast l w [] w.count ts v e in
        closed_is r Subject vs us p ws n k w long hold on T.more T.locals T.last (λ number arm left. control.arms number arm left (branches ms) mlast us) T.finishes ts v T.made
