use Rattle.std.proofs.Common.{◌≤◌, length, arith}
use Rattle.certificate_text.proofs.WordByWord.{from_on}
use Rattle.certificate_laws.specs.Lines.{opening}
use Rattle.front_check.proofs.FromLevel.{breaks-fit, rest-long}
use Rattle.front_check.proofs.Verifying.{verified}
use Rattle.front_check.proofs.checker.verify_by.Goals as goal

pub overflow_cast-result : goal.overflow_cast-result
overflow_cast-result g c =
    let broken = rw c.in-BrokenLine.is at c.in_ok-opening.ensures in
    let least : c.in-BrokenLine.place ≤ length c.args.bytes.now = breaks-fit c.args.g.now opening c.args.bytes.now c.in-BrokenLine.place broken in
    omega (arith, least, c.requires.few)

pub overflow_add-result : goal.overflow_add-result
overflow_add-result g c =
    let broken = rw c.in-BrokenLine.is at c.in_ok-opening.ensures in
    let least : c.in-BrokenLine.place ≤ length c.args.bytes.now = breaks-fit c.args.g.now opening c.args.bytes.now c.in-BrokenLine.place broken in
    omega (arith, least, c.requires.few)

pub overflow_cast-result-in-Some : goal.overflow_cast-result-in-Some
overflow_cast-result-in-Some g c =
    let broken = (rw c.in-Some.is at c.in_ok-broken-in-Named.ensures).value in
    let least : c.in-Some.place ≤ length (from_on c.in-Named.from c.args.bytes.now) = breaks-fit c.args.g.now _ (from_on c.in-Named.from c.args.bytes.now) c.in-Some.place broken in
    omega (arith, least, rest-long c.args.bytes.now c.in-Named.from, c.requires.few)

pub overflow_add-result-in-Some : goal.overflow_add-result-in-Some
overflow_add-result-in-Some g c =
    let broken = (rw c.in-Some.is at c.in_ok-broken-in-Named.ensures).value in
    let least : c.in-Some.place ≤ length (from_on c.in-Named.from c.args.bytes.now) = breaks-fit c.args.g.now _ (from_on c.in-Named.from c.args.bytes.now) c.in-Some.place broken in
    omega (arith, least, rest-long c.args.bytes.now c.in-Named.from, c.requires.few)

pub returns-in-None : goal.returns-in-None
returns-in-None g c =
    let named = rw c.in-Named.is at c.in_ok-opening.ensures in
    let reads = (rw c.in-None.is at c.in_ok-broken-in-Named.ensures).value in
    verified c.args.g.now c.args.bytes.now c.in-Named.grain c.in-Named.actions.items c.as_slice.result.now c.in-Named.score c.in-Named.from named c.as_slice.ensures.value reads
