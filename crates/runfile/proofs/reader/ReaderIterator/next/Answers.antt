use Rattle.std.proofs.Common.{rules, ◌≡◌, ◌-◌, ◌<◌, take, drop, ap, ◌∙◌, ap₂, arith}
use Rattle.runfile.specs.Table.{count_of, offset_of, length_of, spot, Located, record_at}
use Rattle.runfile.proofs.Opening.{pair_inside, record_inside, one_found}
use Rattle.runfile.proofs.reader.ReaderIterator.next.Goals as goal

pub read-pair-requires : goal.read-pair-requires
read-pair-requires c =
    let s = c.args.self.now in
    let lt : s.next < count_of s.file.now = omega arith in
    pair_inside s.file.now s.next s.opens lt

pub slice_bounds-result-end : goal.slice_bounds-result-end
slice_bounds-result-end c =
    let s = c.args.self.now in
    let lt : s.next < count_of s.file.now = omega arith in
    omega (arith, record_inside s.file.now s.next s.opens lt, c.read-pair.ensures)

pub returns-clause-steps : goal.returns-clause-steps
returns-clause-steps c =
    let s = c.args.self.now in
    let lt : s.next < s.count = omega arith in
    let at : c.from-3.result ≡ offset_of s.file.now s.next = omega (arith, c.from-3.ensures, c.read-pair.ensures) in
    let place : c.from-2.result ≡ offset_of s.file.now s.next = omega (arith, c.from-2.ensures, c.read-pair.ensures) in
    let number : c.from.result ≡ s.next = omega (arith, c.from.ensures) in
    let len : c.end.result - c.from-3.result ≡ length_of s.file.now s.next = omega (arith, c.end.ensures, c.from-3.ensures, c.read-pair.ensures) in
    let found : Located = record { spot = spot c.from.result c.from-2.result; bytes = take (c.end.result - c.from-3.result) (drop c.from-3.result s.file.now) } in
    let is : found ≡ record_at s.file.now s.next =
    ap₂ (λ x y. record { spot = x; bytes = y }) (ap₂ spot number place) (ap₂ (λ n m. take n (drop m s.file.now)) len at) in
    let both = one_found s.file.now s.next s.count found s.opens s.counted lt is in
    record { first = both.0; yields = both.1 }
