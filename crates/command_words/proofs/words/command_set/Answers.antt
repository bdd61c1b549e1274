use Rattle.std.proofs.Common.{true, ap, ap₂, codes, ◌≡◌, ◌∙◌}
use Rattle.clap.specs.Words.{App, app_of, new_app, with_subcommand}
use Rattle.clap.specs.Simple.{app_of_fields, on_top}
use Rattle.clap.specs.declared.builder.command.Command.{Command}
use Rattle.clap.specs.declared.builder.command.Command.TheOpen.{Command-F}
use Rattle.clap.specs.declared.builder.command.Command.TheViews.{out-Command}
use Rattle.command_words.specs.Words.{asks_for_subcommand, command_set, run_command}
use Rattle.command_words.proofs.words.command_set.Goals as goal

-- the three settings, one after the other
asked : (a b d e : Command-F Command) → b ≡ record a { subcommand_required = true } → d ≡ record b { disable_help_flag = true } → e ≡ record d { disable_help_subcommand = true }
    → app_of_fields e ≡ on_top asks_for_subcommand (app_of_fields a)
asked a b d e first second third =
    ap app_of_fields third
    ∙ (ap (λ (f : Command-F Command). app_of_fields (record f { disable_help_subcommand = true })) second
    ∙ ap (λ (f : Command-F Command). app_of_fields (record f { disable_help_flag = true; disable_help_subcommand = true })) first)

pub returns : goal.returns
unfolding command_set
returns c =
    let commands_are : app_of c.in_ok-commands.commands ≡ with_subcommand (new_app (codes "zoe_run")) run_command.top =
    c.in_ok-commands.ensures.shape c.in_ok-run.ensures.1 ∙ ap₂ with_subcommand c.new.ensures.app (ap (λ (a : App). a.top) c.in_ok-run.ensures.0) in
    asked (out-Command c.in_ok-commands.commands) (out-Command c.subcommand_required.result) (out-Command c.disable_help_flag.result) (out-Command c.disable_help_subcommand.result)
    c.subcommand_required.ensures c.disable_help_flag.ensures c.disable_help_subcommand.ensures ∙ ap (on_top asks_for_subcommand) commands_are
