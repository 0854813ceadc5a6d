-- What one more command adds to the program.
use Rattle.std.proofs.Common.{◌≡◌, ◌∙◌, ap, ap₂, false}
use Rattle.clap.specs.Built.{AddsSubcommand}
use Rattle.clap.specs.Simple.{App, app_of, with_subcommand}
use Rattle.clap.specs.declared.builder.command.Command.{Command}
use Rattle.clap.specs.declared.builder.command.Command.TheViews.{out-Command as fields_of}
use Rattle.desk_words.specs.App.{form_app, form_shape}
use Rattle.desk_words.specs.Forms.{Form}

pub command_added : (old sub new : Command) (app : App) (form : Form) → AddsSubcommand old sub new → (fields_of sub).has_globals ≡ false
    → app_of old ≡ app → app_of sub ≡ form_app form → app_of new ≡ with_subcommand app (form_shape form)
command_added old sub new app form adds local before is = adds.shape local ∙ ap₂ with_subcommand before (ap (λ (a : App). a.top) is)
