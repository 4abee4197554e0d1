-- The registers of the module: one for each register of the net, by the names of the parts.
use Rattle.std.proofs.Common.{◌≡◌, ◌∙◌, ℕ, zero, suc, ◌+◌, List, [], ◌∷◌, ◌++◌, length, map, Some, refl, sym, ap, ap₂, subst, arith, length-append}
use Rattle.std.specs.Prelude.{slice_get, option_map}
use Rattle.std.specs.List.{flat_map}
use Rattle.std.proofs.lemmas.List.{length-map}
use Rattle.std.proofs.lemmas.Option.{same_Some}
use Rattle.bsv_bits.specs.Words.{IsWord}
use Rattle.bsv_prim.specs.declared.primitive.RegisterInfo.{RegisterInfo}
use Rattle.bsv_design.specs.declared.design.NamedPart.{NamedPart}
use Rattle.bsv_design.specs.declared.kind.Kind.{Kind}
use Rattle.bsv_design.specs.declared.kind.Kind.TheVariants.{Reg, RegU, Wire, DWire, RWire, Pulse, Plain, Pipeline, Bypass}
use Rattle.bsv_design.specs.parts.Kinds.{kind_table}
use Rattle.bsv_graph.specs.Edges.{numbers_below}
use Rattle.bsv_clock.specs.Shows as carrying
use Rattle.bsv_clock.specs.Shows.{Cell, cell_of, cells_in, cells_of}
use Rattle.bsv_vtext.specs.declared.tree.VRegister.{VRegister}
use Rattle.bsv_vgen.specs.Interfaces.{cell}
use Rattle.bsv_vgen.specs.Modules.{register_of, registers_of}
use Rattle.bsv_vgen.specs.Names.{verilog_name, item_suffix, queue_suffixes, suffixes, part_names, register_names}
use Rattle.bsv_graph.proofs.Below.{count_below}

-- ---- as many names as registers

queue_count : (depth : ℕ) → length (queue_suffixes depth) ≡ depth + 1
queue_count depth = let e = length-map (numbers_below depth) item_suffix ∙ count_below depth in omega (arith, e)

suffix_count : (k : Kind) → length (suffixes k) ≡ (kind_table k).registers
suffix_count (Reg k) = refl
suffix_count (RegU k) = refl
suffix_count (Wire k) = refl
suffix_count (DWire k) = refl
suffix_count (RWire k) = refl
suffix_count (Pulse k) = refl
suffix_count (Plain k) = queue_count k.depth
suffix_count (Pipeline k) = queue_count 1
suffix_count (Bypass k) = queue_count 1

part_count : (p : NamedPart) → length (part_names p) ≡ length (cells_in p.kind)
part_count p =
    length-map (suffixes p.kind) (λ (s : List ℕ). verilog_name p.path ++ s) ∙ suffix_count p.kind
    ∙ sym (length-map (numbers_below (kind_table p.kind).registers) (cell_of (kind_table p.kind)) ∙ count_below (kind_table p.kind).registers)

pub name_count : (ps : List NamedPart) → length (register_names ps) ≡ length (cells_of (map (λ p. p.kind) ps))
unfolding register_names cells_of
name_count [] = refl
name_count (p ∷ ps) =
    let rest : length (flat_map part_names ps) ≡ length (flat_map cells_in (map (λ (q : NamedPart). q.kind) ps)) = name_count ps in
    length-append (part_names p) (flat_map part_names ps) ∙ ap₂ (λ (a b : ℕ). a + b) (part_count p) rest
    ∙ sym (length-append (cells_in p.kind) (flat_map cells_in (map (λ (q : NamedPart). q.kind) ps)))

-- ---- each register

start_width : (r : RegisterInfo) → r.start.width ≡ r.width
start_width r = r.in_range.same_width

pub cells_same : (ns : List (List ℕ)) (rs : List RegisterInfo) → length ns ≡ length rs → map cell (registers_of ns rs) ≡ map carrying.cell rs
cells_same [] [] e = refl
cells_same [] (r ∷ rs) e = absurd (let h : ⊥ = cc in h)
cells_same (n ∷ ns) [] e = absurd (let h : ⊥ = cc in h)
cells_same (n ∷ ns) (r ∷ rs) e =
    ap₂ (λ (w : ℕ) (cs : List Cell). record { width = w; start = r.start; resets = r.resets } ∷ cs) (start_width r)
    (cells_same ns rs (let h : length ns ≡ length rs = omega (arith, e) in h))

pub names_same : (ns : List (List ℕ)) (rs : List RegisterInfo) → length ns ≡ length rs → map (λ (r : VRegister). r.name) (registers_of ns rs) ≡ ns
names_same [] rs e = refl
names_same (n ∷ ns) [] e = absurd (let h : ⊥ = cc in h)
names_same (n ∷ ns) (r ∷ rs) e = ap (λ (ms : List (List ℕ)). n ∷ ms) (names_same ns rs (let h : length ns ≡ length rs = omega (arith, e) in h))

pub registers_count : (ns : List (List ℕ)) (rs : List RegisterInfo) → length ns ≡ length rs → length (registers_of ns rs) ≡ length rs
registers_count [] [] e = refl
registers_count [] (r ∷ rs) e = absurd (let h : ⊥ = cc in h)
registers_count (n ∷ ns) [] e = absurd (let h : ⊥ = cc in h)
registers_count (n ∷ ns) (r ∷ rs) e = ap suc (registers_count ns rs (let h : length ns ≡ length rs = omega (arith, e) in h))

-- a register of the module is one of the net's
pub record IsRegisterOf (rs : List RegisterInfo) (k : ℕ) (v : VRegister) : Type 0 where
  pub info : RegisterInfo
  pub at : slice_get rs k ≡ Some info
  pub word : IsWord v.start
  pub width : v.start.width ≡ info.width

pub register_is : (ns : List (List ℕ)) (rs : List RegisterInfo) (k : ℕ) (v : VRegister) → slice_get (registers_of ns rs) k ≡ Some v → IsRegisterOf rs k v
register_is [] rs k v e = absurd (let h : ⊥ = cc in h)
register_is (n ∷ ns) [] k v e = absurd (let h : ⊥ = cc in h)
register_is (n ∷ ns) (r ∷ rs) zero v e =
    let same = same_Some (register_of n r) v e in
    record {
      info = r;
      at = refl;
      word = subst (λ (x : VRegister). IsWord x.start) same r.in_range.word;
      width = subst (λ (x : VRegister). x.start.width ≡ r.width) same (start_width r);
    }
register_is (n ∷ ns) (r ∷ rs) (suc k) v e =
    let h = register_is ns rs k v e in record { info = h.info; at = h.at; word = h.word; width = h.width }

-- and each of the net's has its width in the module
pub register_width : (ns : List (List ℕ)) (rs : List RegisterInfo) → length ns ≡ length rs → (k : ℕ) (r : RegisterInfo) → slice_get rs k ≡ Some r
    → option_map (λ (v : VRegister). v.start.width) (slice_get (registers_of ns rs) k) ≡ Some r.width
register_width [] [] e k r there = absurd (let h : ⊥ = cc in h)
register_width [] (x ∷ rs) e k r there = absurd (let h : ⊥ = cc in h)
register_width (n ∷ ns) [] e k r there = absurd (let h : ⊥ = cc in h)
register_width (n ∷ ns) (x ∷ rs) e zero r there = let same = same_Some x r there in ap Some (start_width x ∙ ap (λ (y : RegisterInfo). y.width) same)
register_width (n ∷ ns) (x ∷ rs) e (suc k) r there = register_width ns rs (let h : length ns ≡ length rs = omega (arith, e) in h) k r there
