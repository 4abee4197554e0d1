-- A module that carries a scheme runs as the scheme does: it has clocks for all requests that fit, and they tell what happens.
use Rattle.std.proofs.Common.{◌≡◌, ◌∙◌, ℕ, zero, suc, Bool, true, false, List, [], ◌∷◌, length, map, Option, Some, None, refl, sym, ap, subst}
use Rattle.std.specs.Prelude.{slice_get, unwrap_or}
use Rattle.std.specs.Option.{option_map}
use Rattle.std.proofs.Math.Logic.{∥∥₁_elim, ∥∥₁_prop}
use Rattle.std.proofs.lemmas.Option.{same_Some, slice_get-map, slice_get_within}
use Rattle.bsv_lemmas.proofs.Places.{mapped_at}
use Rattle.bsv_bits.specs.Words.{Bits}
use Rattle.bsv_prim.specs.Table.{IsWordOf}
use Rattle.bsv_prim.specs.declared.part.Part.{Part}
use Rattle.bsv_design.specs.declared.element.Port.{Port}
use Rattle.bsv_design.specs.declared.schedule.Schedule.{Schedule}
use Rattle.bsv_design.specs.design.Roles.{is_rule}
use Rattle.bsv_design.specs.scheme.Schemes.{Scheme, Asking, Outline, given, ports_of}
use Rattle.bsv_design.specs.scheme.States.{AreWordsOf, FitsKinds, opening}
use Rattle.bsv_graph.specs.Edges.{numbers_below}
use Rattle.bsv_guard.specs.Fitting.{HaveWidths, RequestFits}
use Rattle.bsv_clock.specs.Shows.{Shows, cell_widths, cells_of}
use Rattle.bsv_clock.specs.Grounds.{IsLawful}
use Rattle.bsv_clock.specs.Runs.{Row, AllFit, Continues}
use Rattle.bsv_clock.proofs.InTurn.{run_fits}
use Rattle.bsv_clock.proofs.OneRun.{opening_fits}
use Rattle.bsv_clock.proofs.Steadily.{emptied_fits}
use Rattle.bsv_net.specs.Unasked.{Arguments}
use Rattle.bsv_net.proofs.Numbers.{number_at}
use Rattle.bsv_net.proofs.RegisterWidths.{widths_prop}
use Rattle.bsv_vtext.specs.declared.tree.Atom.TheVariants as atom
use Rattle.bsv_vtext.specs.declared.tree.VMethod.{VMethod}
use Rattle.bsv_vtext.specs.declared.tree.VRegister.{VRegister}
use Rattle.bsv_vtext.specs.declared.tree.VWire.{VWire}
use Rattle.bsv_vtext.specs.Modules.{IsModule, IsRegister}
use Rattle.bsv_vtext.specs.Signals.{VModuleData, arguments_of}
use Rattle.bsv_vtext.specs.VClock.{Inputs, Nets, VClock, initial, word_at}
use Rattle.bsv_vtext.specs.Widths.{atom_width}
use Rattle.bsv_vgen.specs.ShowsByModule.{ModuleCarries, ModuleIgnores, inputs, inputs_with}
use Rattle.bsv_vgen.specs.Interfaces.{HasMethod, IsMethodAt, argument_of, cell}
use Rattle.bsv_vgen.specs.Resetting.{BeginsOpen}
use Rattle.bsv_vgen.specs.Runs.{AllMayBeArguments, ContinuesWith, ModuleRow, ModuleContinues, RunsAs, RunsUnasked, TellsFrom, TellsOthersFrom}
use Rattle.bsv_vgen.proofs.NetWords.{widths_of, nexts_fit}
use Rattle.bsv_vgen.proofs.Solving.{words, solution, solved}

-- ---- words of registers

cell_widths_are : (rs : List VRegister) → cell_widths (map cell rs) ≡ widths_of rs
cell_widths_are [] = refl
cell_widths_are (r ∷ rs) = ap (λ (us : List ℕ). r.start.width ∷ us) (cell_widths_are rs)

register_fits : (rs : List VRegister) (ws : List Bits) → HaveWidths (widths_of rs) ws
    → (k : ℕ) (r : VRegister) → slice_get rs k ≡ Some r → IsWordOf r.start.width (word_at ws k)
register_fits [] ws h k r e = absurd (let n : ⊥ = cc in n)
register_fits (q ∷ rs) [] h k r e = absurd h
register_fits (q ∷ rs) (w ∷ ws) h zero r e = subst (λ (x : VRegister). IsWordOf x.start.width w) (same_Some q r e) h.0
register_fits (q ∷ rs) (w ∷ ws) h (suc k) r e = register_fits rs ws h.1 k r e

starts_fit : (rs : List VRegister) → ((k : ℕ) (r : VRegister) → slice_get rs k ≡ Some r → IsRegister r)
    → HaveWidths (widths_of rs) (map (λ r. r.start) rs)
starts_fit [] good = tt
starts_fit (r ∷ rs) good = (record { word = (good 0 r refl).start; same_width = refl }, starts_fit rs (λ k q e. good (suc k) q e))

-- ---- words of arguments

argument_fits : (ps : List Port) (ws : List Bits) → AreWordsOf ps ws → (k : ℕ) (p : Port) → slice_get ps k ≡ Some p
    → IsWordOf p.width (word_at ws k)
argument_fits [] ws h k p e = absurd (let n : ⊥ = cc in n)
argument_fits (x ∷ ps) [] h k p e = absurd h
argument_fits (x ∷ ps) (w ∷ ws) h zero p e = subst (λ (y : Port). IsWordOf y.width w) (same_Some x p e) h.0
argument_fits (x ∷ ps) (w ∷ ws) h (suc k) p e = argument_fits ps ws h.1 k p e

-- the words of ports have the widths of the arguments that are made of them
made_fits : (ps : List Port) (ws : List Bits) → AreWordsOf ps ws → (k u : ℕ)
    → option_map (λ (a : VWire). a.width) (slice_get (map argument_of ps) k) ≡ Some u → IsWordOf u (word_at ws k)
made_fits ps ws h k u e = of (slice_get ps k) refl (sym (ap (option_map (λ (a : VWire). a.width)) (slice_get-map argument_of ps k)) ∙ e)
  where
    of : (o : Option Port) → slice_get ps k ≡ o → option_map (λ (a : VWire). a.width) (option_map argument_of o) ≡ Some u
        → IsWordOf u (word_at ws k)
    of None there e = absurd (let n : ⊥ = cc in n)
    of (Some p) there e = subst (λ (v : ℕ). IsWordOf v (word_at ws k)) (same_Some p.width u e) (argument_fits ps ws h k p there)

module _ (S : Scheme) (c : VModuleData)
    (methods : (n : ℕ) (o : Outline) → slice_get S.elements n ≡ Some o → is_rule o.role ≡ false → HasMethod c n o)
    (no_more : (n : ℕ) (m : VMethod) → slice_get c.methods n ≡ Some m → IsMethodAt S.elements n) where
  abbrev AreFit : Arguments → Type 0
  AreFit xs = (n : ℕ) → AreWordsOf (ports_of (slice_get S.elements n)) (xs n)

  abbrev ins_with : Asking → Arguments → Inputs
  ins_with q xs = inputs_with q xs (length c.methods)

  abbrev ins_of : Asking → Inputs
  ins_of q = inputs S q (length c.methods)

  arguments_fit : (q : Asking) (xs : Arguments) → AreFit xs → (m k u : ℕ) → atom_width c (atom.Argument m k) ≡ Some u
      → IsWordOf u (word_at (unwrap_or (slice_get (ins_with q xs).arguments m) []) k)
  arguments_fit q xs fits m k u e = of (slice_get c.methods m) refl e
    where
      of : (o : Option VMethod) → slice_get c.methods m ≡ o → option_map (λ (a : VWire). a.width) (slice_get (arguments_of o) k) ≡ Some u
          → IsWordOf u (word_at (unwrap_or (slice_get (ins_with q xs).arguments m) []) k)
      of None there e = absurd (let n : ⊥ = cc in n)
      of (Some v) there e =
          let at = no_more m v there in
          let own = methods m at.outline at.at at.method in
          let args : v.args ≡ map argument_of at.outline.ports =
          ap (λ (x : VMethod). x.args) (same_Some v own.method (sym there ∙ own.at)) ∙ own.is.arguments in
          let words : AreWordsOf at.outline.ports (xs m) =
          subst (λ (o : Option Outline). AreWordsOf (ports_of o) (xs m)) at.at (fits m) in
          let asked : slice_get (ins_with q xs).arguments m ≡ Some (xs m) =
          mapped_at xs (numbers_below (length c.methods)) m m (number_at (length c.methods) m (slice_get_within c.methods m v there)) in
          subst (λ (o : Option (List Bits)). IsWordOf u (word_at (unwrap_or o []) k)) (sym asked)
          (made_fits at.outline.ports (xs m) words k u
          (sym (ap (λ (vs : List VWire). option_map (λ (a : VWire). a.width) (slice_get vs k)) args) ∙ e))

  -- the registers after a clock have words of their widths
  next_with : IsModule c → (q : Asking) (xs : Arguments) → AreFit xs → (ws : List Bits) → HaveWidths (widths_of c.registers) ws
      → (nets : Nets) (nexts : List Bits) → VClock c ws (ins_with q xs) true nets nexts → HaveWidths (widths_of c.registers) nexts
  next_with is q xs fits ws have nets nexts clock =
      subst (HaveWidths (widths_of c.registers)) (sym clock.edge)
      (nexts_fit c is ws (ins_with q xs) (register_fits c.registers ws have) (arguments_fit q xs fits) nets clock.assigned)

  next_fits : IsModule c → (q : Asking) → ((n : ℕ) → RequestFits S q n) → (ws : List Bits) → HaveWidths (widths_of c.registers) ws
      → (nets : Nets) (nexts : List Bits) → VClock c ws (ins_of q) true nets nexts → HaveWidths (widths_of c.registers) nexts
  next_fits is q fits = next_with is q (given S q) fits

  -- ---- there are clocks

  abbrev Continuation : List Bits → List Asking → Type 0
  Continuation ws qs = (rows : List ModuleRow) × ModuleContinues S c ws qs rows

  continues : IsModule c → (ws : List Bits) → HaveWidths (widths_of c.registers) ws → (qs : List Asking) → AllFit S qs → Continuation ws qs
  continues is ws have [] all = ([], tt)
  continues is ws have (q ∷ qs) all =
      let nets : Nets = solution c ws (ins_of q) in
      let nexts : List Bits = map (words c ws (ins_of q) nets) c.nexts in
      let clock : VClock c ws (ins_of q) true nets nexts = record { assigned = solved c ws (ins_of q) is; edge = refl } in
      let rest = continues is nexts (next_fits is q all.0 ws have nets nexts clock) qs all.1 in
      (record { nets = nets; nexts = nexts } ∷ rest.0, (clock, rest.1))

  abbrev ContinuationWith : List Bits → List Asking → List Arguments → Type 0
  ContinuationWith ws qs more = (rows : List ModuleRow) × ContinuesWith c ws qs more rows

  continues_with : IsModule c → (ws : List Bits) → HaveWidths (widths_of c.registers) ws → (qs : List Asking) (more : List Arguments) → AllMayBeArguments S qs more
      → ContinuationWith ws qs more
  continues_with is ws have [] [] stand = ([], tt)
  continues_with is ws have [] (xs ∷ more) stand = absurd stand
  continues_with is ws have (q ∷ qs) [] stand = absurd stand
  continues_with is ws have (q ∷ qs) (xs ∷ more) stand =
      let nets : Nets = solution c ws (ins_with q xs) in
      let nexts : List Bits = map (words c ws (ins_with q xs) nets) c.nexts in
      let clock : VClock c ws (ins_with q xs) true nets nexts = record { assigned = solved c ws (ins_with q xs) is; edge = refl } in
      let rest = continues_with is nexts (next_with is q xs stand.0.widths ws have nets nexts clock) qs more stand.1 in
      (record { nets = nets; nexts = nexts } ∷ rest.0, (clock, rest.1))

  -- ---- and each tells what happens

  module _ (aggressive : Bool) (made : Schedule) (lawful : IsLawful S) (right : ∥ IsModule c ∥₁)
      (cells : map cell c.registers ≡ cells_of S.kinds)
      (carries : ModuleCarries aggressive S made c) (begins : BeginsOpen S.kinds c) where
    as_cells : (ws : List Bits) → HaveWidths (widths_of c.registers) ws → HaveWidths (cell_widths (cells_of S.kinds)) ws
    as_cells ws have = subst (λ (us : List ℕ). HaveWidths us ws) (sym (cell_widths_are c.registers) ∙ ap cell_widths cells) have

    tells : (s : List Part) (ws : List Bits) → FitsKinds S.kinds s → HaveWidths (widths_of c.registers) ws → Shows S.kinds s ws
        → (qs : List Asking) (rows : List Row) (tolds : List ModuleRow) → AllFit S qs → Continues aggressive S made s qs rows
        → ModuleContinues S c ws qs tolds → TellsFrom aggressive S c s qs rows tolds
    tells s ws fits have shows [] [] [] all h k = tt
    tells s ws fits have shows [] [] (told ∷ tolds) all h k = absurd k
    tells s ws fits have shows [] (row ∷ rows) tolds all h k = absurd h
    tells s ws fits have shows (q ∷ qs) [] tolds all h k = absurd h
    tells s ws fits have shows (q ∷ qs) (row ∷ rows) [] all h k = absurd k
    tells s ws fits have shows (q ∷ qs) (row ∷ rows) (told ∷ tolds) all h k =
        let now =
        carries q s ws row.fired.list.items row.after told.nets told.nexts (record { requests = all.0; parts = fits }) (as_cells ws have) shows h.0.clock k.0 in
        let still : FitsKinds S.kinds row.after = run_fits S lawful aggressive q all.0 (emptied_fits S.kinds s fits) h.0.clock.serial in
        let have_still : HaveWidths (widths_of c.registers) told.nexts =
        ∥∥₁_elim right (widths_prop (widths_of c.registers) told.nexts) (λ (is : IsModule c). next_fits is q all.0 ws have told.nets told.nexts k.0) in
        (now, tells row.after told.nexts still have_still now.nexts qs rows tolds all.1 h.1 k.1)

    begins_fit : HaveWidths (widths_of c.registers) (initial c)
    begins_fit = ∥∥₁_elim right (widths_prop (widths_of c.registers) (initial c)) (λ (is : IsModule c). starts_fit c.registers is.registers)

    pub runs_as : RunsAs aggressive S made c
    runs_as = record {
      some = λ qs all. ∥∥₁_elim right ∥∥₁_prop (λ (is : IsModule c).
          let found = continues is (initial c) begins_fit qs all in ∣ record { rows = found.0; runs = found.1 } ∣₁);
      told = λ qs rows tolds all h k.
          tells (opening S.kinds) (initial c) (opening_fits S.kinds) begins_fit begins qs rows tolds all h k;
    }

    module _ (ignores : ModuleIgnores aggressive S made c) where
      tells_others : (s : List Part) (ws : List Bits) → FitsKinds S.kinds s → HaveWidths (widths_of c.registers) ws → Shows S.kinds s ws
          → (qs : List Asking) (more : List Arguments) (rows : List Row) (tolds : List ModuleRow) → AllFit S qs → AllMayBeArguments S qs more
          → Continues aggressive S made s qs rows → ContinuesWith c ws qs more tolds → TellsOthersFrom aggressive S c s qs rows tolds
      tells_others s ws fits have shows [] [] [] [] all stand h k = tt
      tells_others s ws fits have shows [] [] [] (told ∷ tolds) all stand h k = absurd k
      tells_others s ws fits have shows [] [] (row ∷ rows) tolds all stand h k = absurd h
      tells_others s ws fits have shows [] (xs ∷ more) rows tolds all stand h k = absurd stand
      tells_others s ws fits have shows (q ∷ qs) [] rows tolds all stand h k = absurd stand
      tells_others s ws fits have shows (q ∷ qs) (xs ∷ more) [] tolds all stand h k = absurd h
      tells_others s ws fits have shows (q ∷ qs) (xs ∷ more) (row ∷ rows) [] all stand h k = absurd k
      tells_others s ws fits have shows (q ∷ qs) (xs ∷ more) (row ∷ rows) (told ∷ tolds) all stand h k =
          let now =
          ignores q s ws row.fired.list.items row.after told.nets told.nexts xs (record { requests = all.0; parts = fits }) stand.0 (as_cells ws have) shows h.0.clock k.0 in
          let still : FitsKinds S.kinds row.after = run_fits S lawful aggressive q all.0 (emptied_fits S.kinds s fits) h.0.clock.serial in
          let have_still : HaveWidths (widths_of c.registers) told.nexts =
          ∥∥₁_elim right (widths_prop (widths_of c.registers) told.nexts)
          (λ (is : IsModule c). next_with is q xs stand.0.widths ws have told.nets told.nexts k.0) in
          (now, tells_others row.after told.nexts still have_still now.nexts qs more rows tolds all.1 stand.1 h.1 k.1)

      pub runs_unasked : RunsUnasked aggressive S made c
      runs_unasked = record {
        some = λ qs more all stand. ∥∥₁_elim right ∥∥₁_prop (λ (is : IsModule c).
            let found = continues_with is (initial c) begins_fit qs more stand in ∣ record { rows = found.0; runs = found.1 } ∣₁);
        told = λ qs more rows tolds all stand h k.
            tells_others (opening S.kinds) (initial c) (opening_fits S.kinds) begins_fit begins qs more rows tolds all stand h k;
      }
