use Rattle.transparency.proofs.tools.tool_lines.Goals as goal

pub returns-in-Qmi : goal.returns-in-Qmi
returns-in-Qmi g c = rw c.in-Qmi.is c.qmi_lines.ensures

pub returns-in-Mbim : goal.returns-in-Mbim
returns-in-Mbim g c = rw c.in-Mbim.is c.mbim_lines.ensures
