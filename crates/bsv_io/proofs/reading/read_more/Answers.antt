use Rattle.bsv_io.specs.Reading.{Reading, Gives, bytes_given}
use Rattle.std.proofs.Common.{◌∙◌, ap, arith}
use Rattle.bsv_io.proofs.Readings.{if_told, given_advanced}
use Rattle.bsv_io.proofs.Moved.{moves}
use Rattle.bsv_io.proofs.reading.read_more.Goals as goal

pub returns-clause-bytes : goal.returns-clause-bytes
returns-clause-bytes g c =
    λ left told.
    let given = if_told _ (Gives c.in_ok-len.len c.read.new.buf) left told c.in_ok-len.ensures.bytes in
    moves c.in_ok-len.len c.args.bytes.now.items c.extend_from_slice.new.self.items c.read.new.buf left (g.F.Files.reading c.args.files.now) (g.F.Files.reading c.read.new.self)
    c.in_ok-len.ensures.ok told given c.in_ok-extend_from_slice.ensures.items

pub returns-clause-given : goal.returns-clause-given
returns-clause-given g c =
    ap (λ (r : Reading). bytes_given r) c.in_ok-len.ensures.ok ∙ given_advanced (g.F.Files.reading c.args.files.now) c.in_ok-len.len c.requires.current

pub returns-clause-within : goal.returns-clause-within
returns-clause-within g c =
    let given = ap (λ (r : Reading). bytes_given r) c.in_ok-len.ensures.ok ∙ given_advanced (g.F.Files.reading c.args.files.now) c.in_ok-len.len c.requires.current in
    omega (arith, given, c.in_ok-len.ensures.within)

pub returns-in_err-extend_from_slice-clause-within : goal.returns-in_err-extend_from_slice-clause-within
returns-in_err-extend_from_slice-clause-within g c =
    let given = ap (λ (r : Reading). bytes_given r) c.in_ok-len.ensures.ok ∙ given_advanced (g.F.Files.reading c.args.files.now) c.in_ok-len.len c.requires.current in
    omega (arith, given, c.in_ok-len.ensures.within)

pub returns-in_err-len-clause-within : goal.returns-in_err-len-clause-within
returns-in_err-len-clause-within g c =
    let same = ap (λ (r : Reading). bytes_given r) c.in_err-len.ensures.err in
    omega (arith, same)
