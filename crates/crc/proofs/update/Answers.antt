use Rattle.std.proofs.Common.{◌≡◌, fold, rules, ◌∙◌}
use Rattle.crc.specs.Sum.{after_bits, bits}
use Rattle.crc.proofs.Runs.{after_message_is_fold}
use Rattle.crc.proofs.update.Goals as goal

pub returns : goal.returns
returns c =
    let byte_by_byte : c.fold.result ≡ fold (λ now x. after_bits now (bits 8 x)) c.args.register c.args.message.now = search rules in
    byte_by_byte ∙ after_message_is_fold c.args.register c.args.message.now
