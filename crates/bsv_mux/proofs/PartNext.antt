-- The next pieces of a part, in a clock: they show the part after it.
use Rattle.std.proofs.Common.{◌≡◌, ◌∙◌, ◌<◌, ℕ, true, false, List, Option, Some, None, MatchOption, is_some, refl, sym, ap, ap₂, subst}
use Rattle.std.specs.Prelude.{slice_get}
use Rattle.bsv_lemmas.proofs.Places.{all_from}
use Rattle.bsv_bits.specs.Words.{Bits}
use Rattle.bsv_prim.specs.Calls.{IsReady, latest, look}
use Rattle.bsv_prim.specs.Calls as prim
use Rattle.bsv_prim.specs.Parallel.{IsParallel}
use Rattle.bsv_prim.specs.Signals.{Signals, word_of}
use Rattle.bsv_prim.specs.Table.{Table, Call, word_at}
use Rattle.bsv_prim.specs.declared.part.Part.{Part}
use Rattle.bsv_prim.proofs.Parallel.{step_in_turn}
use Rattle.bsv_design.specs.declared.kind.Kind.{Kind}
use Rattle.bsv_design.specs.design.Bodies.{Target}
use Rattle.bsv_design.specs.parts.Kinds.{kind_table, kind_laws}
use Rattle.bsv_design.specs.scheme.Schemes.{Called, is_open, guard_of}
use Rattle.bsv_design.specs.scheme.States.{FitsKinds, emptied, part_at}
use Rattle.bsv_design.specs.scheme.Traces.{kind_at}
use Rattle.bsv_guard.specs.ElementLaws.{call_of}
use Rattle.bsv_guard.specs.Turns.{calls_on}
use Rattle.bsv_guard.proofs.Turns.{sound_turns, all_on, fits_at}
use Rattle.bsv_clock.specs.Feeding.{IsFed}
use Rattle.bsv_clock.specs.Grounds.{BelongTogether}
use Rattle.bsv_clock.specs.Settling.{deeds, end_of, look_of}
use Rattle.bsv_clock.proofs.Clocks.{clock_fed}
use Rattle.bsv_clock.proofs.Steadily.{emptied_fits, looked_at, steady_scheme}
use Rattle.bsv_ports.proofs.Scene.{Scene, S, does, looks, last_call}
use Rattle.bsv_fire.proofs.PiecesTold.{emptied_at}
use Rattle.bsv_prim.proofs.Orderly.{fit_from_orderly, order_from_orderly}

-- ---- orderly calls

-- ---- signals of the last calls: the word of an argument of a method that is not called is any

abbrev pub or_any : Option (List Bits) → ℕ → Bits → Bits
or_any None k w = w
or_any (Some args) k w = word_at args k

abbrev pub next_signals : Scene → ℕ → (ℕ → Bits) → (ℕ → ℕ → Bits) → Signals
next_signals z i registers others = record {
  register = registers;
  called = λ m. is_some (last_call z i m);
  argument = λ m k. or_any (last_call z i m) k (others m k);
}

tells_last : (t : Table) (v : Signals) (m : ℕ) (last : Option (List Bits)) → v.called m ≡ is_some last → ((k : ℕ) → v.argument m k ≡ or_any last k (v.argument m k))
    → MatchOption last (v.called m ≡ false) (λ args. (v.called m ≡ true) × ((k : ℕ) → k < t.arity m → v.argument m k ≡ word_at args k))
tells_last t v m None c a = c
tells_last t v m (Some args) c a = (c, λ k l. a k)

or_any_twice : (last : Option (List Bits)) (k : ℕ) (w : Bits) → or_any last k w ≡ or_any last k (or_any last k w)
or_any_twice None k w = refl
or_any_twice (Some args) k w = refl

module _ (z : Scene) (i : ℕ) (kind : Kind) (there : slice_get (S z).kinds i ≡ Some kind) where
  together : BelongTogether (S z) z.made z.q z.s
  together = record { lawful = z.lawful; schedule = z.scheduled; fit = z.fit }

  fed : IsFed (S z) z.made z.s (does z)
  fed = clock_fed false (S z) z.made z.q z.s together (steady_scheme false (S z) z.lawful)

  abbrev start : Part
  start = part_at (emptied (S z).kinds z.s) i

  abbrev calls : List Call
  calls = calls_on i (deeds (does z) z.made.execution)

  starts_fit : FitsKinds (S z).kinds (emptied (S z).kinds z.s)
  starts_fit = emptied_fits (S z).kinds z.s z.fit.parts

  look_is : (t : Target) → kind_at (S z).kinds t ≡ Some kind
      → looks z t ≡ look (kind_table kind) t.method (part_at (emptied (S z).kinds z.s) t.part) (calls_on t.part (deeds (does z) z.made.execution))
  unfolding look_of
  look_is t at_kind =
      looked_at (S z) z.lawful false z.q z.fit.requests (emptied (S z).kinds z.s) starts_fit (deeds (does z) z.made.execution) t kind at_kind

  each_ready : (c : Called) → is_open (S z).kinds (looks z) c.target ≡ true → c.target.part ≡ i → IsReady (kind_table kind) (look (kind_table kind) c.target.method start calls) (call_of c)
  each_ready c o at_i =
      let at_kind : kind_at (S z).kinds c.target ≡ Some kind = ap (slice_get (S z).kinds) at_i ∙ there in
      sym (ap₂ (λ (x : Option Kind) (p : Part). guard_of x c.target.method p) at_kind
      (look_is c.target at_kind
      ∙ ap (λ j. look (kind_table kind) c.target.method (part_at (emptied (S z).kinds z.s) j) (calls_on j (deeds (does z) z.made.execution))) at_i)) ∙ o

  parallel : IsParallel (kind_table kind) start calls
  parallel = record {
    part = fits_at (S z).kinds (emptied (S z).kinds z.s) starts_fit i kind there;
    calls = fit_from_orderly (kind_table kind) start calls (fed.orderly i kind there);
    order = order_from_orderly (kind_table kind) start calls (fed.orderly i kind there);
    ready = all_on (λ c. IsReady (kind_table kind) (look (kind_table kind) c.method start calls) c) i (deeds (does z) z.made.execution)
        (all_from (λ c. c.target.part ≡ i → IsReady (kind_table kind) (look (kind_table kind) c.target.method start calls) (call_of c)) (deeds (does z) z.made.execution)
        (λ k c at. each_ready c (fed.open_in_look k c at)));
  }

  -- the part after the clock
  pub end_is : part_at (end_of (S z) z.made z.s (does z)) i ≡ prim.after_calls (kind_table kind) start calls
  unfolding end_of
  end_is = (sound_turns (S z) z.lawful.sound z.lawful.fitting).each_part (emptied (S z).kinds z.s) starts_fit (deeds (does z) z.made.execution) i kind there

  -- the next pieces show it
  pub next_shows : (registers : ℕ → Bits) (others : ℕ → ℕ → Bits) → (kind_table kind).Shows (part_at z.s i) registers
      → (kind_table kind).Shows (part_at (end_of (S z) z.made z.s (does z)) i) (λ r. word_of (next_signals z i registers others) ((kind_table kind).next_piece r))
  next_shows registers others shown =
      let v = next_signals z i registers others in
      subst (λ (p : Part). (kind_table kind).Shows p (λ r. word_of v ((kind_table kind).next_piece r))) (sym end_is)
      (step_in_turn (kind_table kind) (kind_laws kind) start calls v parallel
      (subst (λ (p : Part). (kind_table kind).Shows p registers) (sym (emptied_at (S z).kinds z.s z.fit.parts i kind there))
      ((kind_laws kind).shows.emptied (part_at z.s i) registers (fits_at (S z).kinds z.s z.fit.parts i kind there) shown))
      (λ m below. tells_last (kind_table kind) v m (latest m None calls) refl (λ k. or_any_twice (latest m None calls) k (others m k))))
