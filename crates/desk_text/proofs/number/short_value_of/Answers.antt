use Rattle.std.proofs.Common.{◌≡◌, Ok, ap}
use Rattle.std.specs.Result.{is_ok}
use Rattle.std.specs.Str.Parse.{digits_value}
use Rattle.desk_text.proofs.NumberLemmas.{short_value-parsed}
use Rattle.desk_text.proofs.number.short_value_of.Goals as goal

pub unwrap-requires : goal.unwrap-requires
unwrap-requires c =
    ap is_ok (short_value-parsed c.args.digits.now c.parse.result c.requires.digits c.requires.nonempty c.requires.short (rw c.digits_text.ensures at c.parse.ensures.value.0))

pub returns : goal.returns
returns c =
    let value : c.parse.result ≡ Ok (digits_value 10 c.args.digits.now) =
    short_value-parsed c.args.digits.now c.parse.result c.requires.digits c.requires.nonempty c.requires.short (rw c.digits_text.ensures at c.parse.ensures.value.0) in
    cc
