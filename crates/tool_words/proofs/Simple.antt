-- The options of a tool are such that clap's definitions say exactly how its words are read.
use Rattle.std.proofs.Common.{◌≡◌, refl, true}
use Rattle.clap.specs.Faults.{is_simple_and_free}
use Rattle.kit_bytes.specs.declared.Kind.TheVariants.{Qmi, Mbim}
use Rattle.tool_words.specs.Command.{tool_app}
use Rattle.tool_words.specs.Dissect.{dissect_app, dissect_options}
use Rattle.tool_words.specs.Link.{link_options}
use Rattle.tool_words.specs.MbimCommands.{mbim_commands}
use Rattle.tool_words.specs.Mbimcli.{mbim_settings, mbimcli_app}
use Rattle.tool_words.specs.Proxies.{proxies_app, proxies_options}
use Rattle.tool_words.specs.Proxy.{proxy_app, proxy_options}
use Rattle.tool_words.specs.QmiCommands.{qmi_commands}
use Rattle.tool_words.specs.Qmicli.{qmi_settings, qmicli_app}
use Rattle.tool_words.specs.Rig.{rig_app, rig_options}
use Rattle.tool_words.specs.Simulator.{simulator_app, simulator_options}
use Rattle.tool_words.specs.declared.command.Tool.{Tool}
use Rattle.tool_words.specs.declared.command.Tool.TheVariants as tool

pub tool_app-is_simple : (tool : Tool) → is_simple_and_free (tool_app tool) ≡ true
unfolding link_options qmicli_app qmi_settings qmi_commands mbimcli_app mbim_settings mbim_commands proxy_app proxy_options proxies_app proxies_options simulator_app simulator_options rig_app rig_options dissect_app dissect_options
tool_app-is_simple tool.Qmicli = refl
tool_app-is_simple tool.Mbimcli = refl
tool_app-is_simple (tool.Proxy Qmi) = refl
tool_app-is_simple (tool.Proxy Mbim) = refl
tool_app-is_simple tool.Proxies = refl
tool_app-is_simple tool.Simulator = refl
tool_app-is_simple tool.Rig = refl
tool_app-is_simple tool.Dissect = refl
